-- What a writer's call answers, and what it leaves in the slice.
use Rattle.std.specs.Prelude.{ℕ, cond, List, ◌++◌, length, drop, Ok, Err, Result, nat_le}
use Rattle.records.specs.declared.refusals.Refusal.{Refusal}
use Rattle.records.specs.declared.refusals.Refusal.TheVariants.{UnknownExpression, NoCodeRoom}
use Rattle.records.specs.declared.types.Script.{Script}
use Rattle.records.specs.Tree.{Records, records}
use Rattle.code.specs.declared.ops.Instr.{Instr}
use Rattle.meaning.specs.Fed.{Tables}
use Rattle.meaning.specs.Reading.{Bytes, Reading}
use Rattle.meaning.specs.Compiled.{spelled}
use Rattle.meaning.specs.Writer.{Writer}
use Rattle.meaning.specs.Writers.{written_reading}
use Rattle.writers.specs.declared.named.Named.{Named}
use Rattle.writers.specs.Leaves.{naming}

-- A writer, for a script and the labels of its name table.
abbrev pub writer_for : (Records → List Bytes → Writer) → Script → List ℕ → Writer
writer_for means s names = means (records s) (spelled (records s) names)

-- The same for a script that comes with its name table: the names, the tables, an expression's reading by the forms, a
-- writer.
abbrev pub words : Named → List Bytes
words n = spelled (records n.script) n.names.now

abbrev pub tables_for : Named → Tables
tables_for n = naming (words n)

abbrev pub reading : Named → ℕ → Reading
reading n e = written_reading (tables_for n) (records n.script) e

abbrev pub writer_on : (Records → List Bytes → Writer) → Named → Writer
writer_on means n = writer_for means n.script n.names.now

-- Exactly an unknown expression is refused as such, else exactly a slice with less room than the segment takes;
-- otherwise the segment's length is answered.
abbrev pub replied : Writer → ℕ → ℕ → Result ℕ Refusal
replied W e room =
    cond (W.known e) (cond (nat_le (length (W.segment e)) room) (Ok (length (W.segment e))) (Err NoCodeRoom)) (Err UnknownExpression)

-- The segment fills the slice's start, and the rest stays; a refusal leaves the slice.
abbrev pub filled : Writer → ℕ → List Instr → List Instr
filled W e b = cond (W.known e) (cond (nat_le (length (W.segment e)) (length b)) (W.segment e ++ drop (length (W.segment e)) b) b) b
