-- What compiled code's numbers stand for.
use Rattle.std.specs.Prelude.{ℕ, List, [], ◌∷◌, slice_index_or}
use Rattle.records.specs.Tree.{Records, name_of}
use Rattle.code.specs.declared.ops.AssignOp.{AssignOp}
use Rattle.meaning.specs.Reading.{Bytes, Sign}
use Rattle.meaning.specs.Fed.{Tables}
use Rattle.meaning.specs.LowerState.{Low}

-- The names of a name table, which holds labels.
abbrev pub spelled : Records → List ℕ → List Bytes
spelled R [] = []
spelled R (l ∷ ls) = (name_of R l).bytes ∷ spelled R ls

-- An operator row by its tokens and names.
abbrev pub sign_in : List Bytes → AssignOp → Sign
sign_in ns o = record { token₁ = o.op_assign; bytes₁ = slice_index_or ns o.op_assign_name []; token₂ = o.op; bytes₂ = slice_index_or ns o.op_name [] }

abbrev pub signs_in : List Bytes → List AssignOp → List Sign
signs_in ns [] = []
signs_in ns (o ∷ os) = sign_in ns o ∷ signs_in ns os

abbrev pub tables_of : Records → List ℕ → List AssignOp → Tables
tables_of R names opers = record { names = spelled R names; signs = signs_in (spelled R names) opers }

-- The tables that a lowering leaves.
abbrev pub tables : Records → Low → Tables
tables R s = tables_of R s.names.held s.opers.held
