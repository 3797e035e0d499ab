-- Worked scripts: each with the operations, places and rows, or the refusal, that belongs to it. Positions are all
-- distinct, so that a wrong one would show.
use Rattle.std.specs.Prelude.{◌≡◌, ℕ, true, false, List, [], ◌∷◌, None}
use Rattle.std.proofs.Math.Option.{none}
use Rattle.records.specs.declared.types.Position.{Position}
use Rattle.records.specs.declared.types.Label.{Label}
use Rattle.records.specs.declared.types.Expr.{Expr}
use Rattle.records.specs.declared.types.Node.{Node}
use Rattle.records.specs.Numbers.{number_of}
use Rattle.records.specs.Tree.{Records, nowhere, no_label, no_expr}
use Rattle.records.specs.Checks.{checked}
use Rattle.records.specs.Accepts.{tree_of}
use Rattle.code.specs.declared.ops.Op.{Op}
use Rattle.code.specs.declared.ops.Op.TheVariants.{Unit as UnitOp, StoreLocal, DeclareLocal, Jump, JumpIfFalse, Rotate, UnwindTo, Tick, EvalAst, PushHandler, PopHandler, IterInit, IterNext, IterDrop, StoreShared, Return}
use Rattle.code.specs.declared.ops.Instr.{Instr}
use Rattle.code.specs.declared.ops.Row.{Row}
use Rattle.meaning.specs.LowerState.{Out, Out.ok, Out.no}
use Rattle.meaning.specs.Lower.{Rooms, lowering, max_stack}
use Rattle.meaning.specs.Compiled.{spelled}

-- ## Records, shortly

abbrev pub at : ℕ → Position
at c = record { line = 1; column = c }

abbrev pub label : ℕ → ℕ → Label
label s n = record { start = s; length = n }

-- An expression of a form, at two columns, with its end.
abbrev pub expr : ℕ → ℕ → ℕ → ℕ → Expr
expr f p q e = record { form = f; at = at p; start = at q; end = e; label = 0 }

-- A statement: kind, flags, two columns, mid, end, expression, label, reuse index.
abbrev pub node : ℕ → ℕ → ℕ → ℕ → ℕ → ℕ → ℕ → ℕ → ℕ → Node
node k f p q m e x l r = record { kind = k; flags = f; at = at p; mark = at q; mid = m; end = e; expr = x; label = l; counter = 0; reuse = r; target = 0; operator = 0 }

abbrev pub script : List ℕ → List Label → List Expr → List Node → ℕ → Records
script text labels exprs nodes limit = record { text = text; labels = no_label ∷ labels; exprs = no_expr ∷ exprs; operators = []; nodes = nodes; limit = limit; keep = false }

-- An operation without a position; at a column.
abbrev pub op : Op → Instr
op o = record { op = o; at = nowhere }

abbrev pub op_at : Op → ℕ → Instr
op_at o c = record { op = o; at = at c }

-- A residual row of an expression.
abbrev pub row : ℕ → Row
row e = record { kind = 1; number = e }

-- ## Answers

-- What lowering answers: operations, names, rows, `max_stack` and the deepest slot count, or a number.
pub data Answer : Type 0 where
  code : List Instr → List (List ℕ) → List Row → ℕ → ℕ → Answer
  refused : ℕ → Answer

abbrev pub rooms : Rooms
rooms = record { ops = 1000; names = 1000; opers = 1000; rows = 1000; slots = 1000; breaks = 1000 }

abbrev pub answer_of : Records → Out (Unit {0}) → Answer
answer_of R (ok x s) = code s.code.held (spelled R s.names.held) s.rows.held (max_stack s) s.deepest
answer_of R (no e) = refused (number_of e)

-- ## The scripts

pub record Worked : Type 0 where
  pub records : Records
  pub answer : Answer

-- The empty script.
abbrev pub empty_script : Worked
empty_script = record { records = script ([]) ([]) ([]) ([]) 65535; answer = code (op UnitOp ∷ op Return ∷ []) ([]) ([]) 2 0 }

-- if e {v}
abbrev pub if_then : Worked
if_then = record { records = script ([]) ([]) (expr 3 3 4 2 ∷ expr 3 7 8 3 ∷ []) (node 9 0 1 2 2 2 1 0 0 ∷ node 3 0 5 6 2 2 2 0 0 ∷ []) 65535; answer = code (op (EvalAst 0 true) ∷ op_at (JumpIfFalse 4) 3 ∷ op (EvalAst 1 true) ∷ op (Jump 5) ∷ op UnitOp ∷ op Return ∷ []) ([]) (row 1 ∷ row 2 ∷ []) 6 0 }

-- while c {break v;}
abbrev pub while_break : Worked
while_break = record { records = script ([]) ([]) (expr 3 3 4 2 ∷ expr 3 7 8 3 ∷ []) (node 10 0 1 2 2 2 1 0 0 ∷ node 12 8 5 6 2 2 2 0 0 ∷ []) 65535; answer = code (op_at Tick 2 ∷ op (EvalAst 0 true) ∷ op_at (JumpIfFalse 8) 3 ∷ op (EvalAst 1 true) ∷ op (Rotate 0) ∷ op (UnwindTo 0) ∷ op (Jump 9) ∷ op (Jump 1) ∷ op UnitOp ∷ op Return ∷ []) ([]) (row 1 ∷ row 2 ∷ []) 10 0 }

-- for x in e {try {break;} catch {}}
abbrev pub for_try_break : Worked
for_try_break = record { records = script (120 ∷ []) (label 0 1 ∷ []) (expr 3 3 4 2 ∷ []) (node 8 0 1 2 3 3 1 1 0 ∷ node 7 0 5 6 3 3 0 0 0 ∷ node 12 8 7 8 3 3 0 0 0 ∷ []) 65535; answer = code (op (EvalAst 0 true) ∷ op_at IterInit 4 ∷ op UnitOp ∷ op (DeclareLocal 0 false false) ∷ op_at Tick 2 ∷ op_at (IterNext 16 None) 3 ∷ op (StoreShared 0) ∷ op_at (PushHandler 14 None) 6 ∷ op PopHandler ∷ op IterDrop ∷ op (UnwindTo 0) ∷ op (Jump 17) ∷ op PopHandler ∷ op (Jump 15) ∷ op PopHandler ∷ op (Jump 5) ∷ op (UnwindTo 0) ∷ op UnitOp ∷ op Return ∷ []) ((120 ∷ []) ∷ []) (row 1 ∷ []) 19 1 }

-- loop {if c {while d {} break v;}}: the break lands past the unit.
abbrev pub loop_if_break : Worked
loop_if_break = record { records = script ([]) ([]) (expr 1 3 4 2 ∷ expr 3 7 8 3 ∷ expr 3 11 12 4 ∷ expr 3 15 16 5 ∷ []) (node 10 0 1 2 4 4 1 0 0 ∷ node 9 0 5 6 4 4 2 0 0 ∷ node 10 0 9 10 3 3 3 0 0 ∷ node 12 8 13 14 4 4 4 0 0 ∷ []) 65535; answer = code (op_at Tick 2 ∷ op (EvalAst 0 true) ∷ op_at (JumpIfFalse 11) 7 ∷ op_at Tick 10 ∷ op (EvalAst 1 true) ∷ op_at (JumpIfFalse 7) 11 ∷ op (Jump 4) ∷ op (EvalAst 2 true) ∷ op (Rotate 0) ∷ op (UnwindTo 0) ∷ op (Jump 13) ∷ op (Jump 1) ∷ op UnitOp ∷ op Return ∷ []) ([]) (row 2 ∷ row 3 ∷ row 4 ∷ []) 14 0 }

-- do {} until c
abbrev pub do_until : Worked
do_until = record { records = script ([]) ([]) (expr 3 3 4 2 ∷ []) (node 11 4 1 2 1 1 1 0 0 ∷ []) 65535; answer = code (op_at Tick 2 ∷ op (EvalAst 0 true) ∷ op_at (JumpIfFalse 1) 3 ∷ op UnitOp ∷ op Return ∷ []) ([]) (row 1 ∷ []) 5 0 }

-- A continue outside every loop.
abbrev pub stray_continue : Worked
stray_continue = record { records = script ([]) ([]) ([]) (node 12 0 1 2 1 1 0 0 0 ∷ []) 65535; answer = refused 15 }

-- let x; let x reusing the first, at slot limit 1.
abbrev pub reuse_at_limit : Worked
reuse_at_limit = record { records = script (120 ∷ 120 ∷ []) (label 0 1 ∷ label 1 1 ∷ []) (expr 3 3 4 2 ∷ expr 3 7 8 3 ∷ []) (node 2 0 1 2 1 1 1 1 0 ∷ node 2 0 5 6 2 2 2 2 1 ∷ []) 1; answer = refused 21 }

-- The same at slot limit 2.
abbrev pub reuse : Worked
reuse = record { records = script (120 ∷ 120 ∷ []) (label 0 1 ∷ label 1 1 ∷ []) (expr 3 3 4 2 ∷ expr 3 7 8 3 ∷ []) (node 2 0 1 2 1 1 1 1 0 ∷ node 2 0 5 6 2 2 2 2 1 ∷ []) 2; answer = code (op (EvalAst 0 true) ∷ op (DeclareLocal 0 false false) ∷ op (EvalAst 1 true) ∷ op (StoreLocal 0 false) ∷ op UnitOp ∷ op Return ∷ []) ((120 ∷ []) ∷ []) (row 1 ∷ row 2 ∷ []) 6 1 }

-- All of them.
abbrev pub worked : List Worked
worked = empty_script ∷ if_then ∷ while_break ∷ for_try_break ∷ loop_if_break ∷ do_until ∷ stray_continue ∷ reuse_at_limit ∷ reuse ∷ []

-- The definitions give these answers: the records are accepted, and lowering answers as listed.
abbrev pub Reproduced : List Worked → Type 0
Reproduced [] = Unit {0}
Reproduced (w ∷ ws) = (checked w.records ≡ none) × (answer_of w.records (lowering w.records rooms (tree_of w.records)) ≡ w.answer) × Reproduced ws
