-- A writer that reads every expression as unit.
use Rattle.std.specs.Prelude.{[], ◌∷◌, length}
use Rattle.records.specs.Tree.{Records}
use Rattle.code.specs.declared.ops.Op.TheVariants.{Unit as UnitOp}
use Rattle.meaning.specs.Reading.{Reading.unit}
use Rattle.meaning.specs.Writer.{Writer}
use Rattle.meaning.specs.Writers.{is_record, plain}

abbrev pub units : Records → Writer
units R = record { known = is_record (length R.exprs); reading = λ e. unit; segment = λ e. plain UnitOp ∷ []; longest = 1; rise = 1 }
