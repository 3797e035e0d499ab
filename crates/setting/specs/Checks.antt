-- The refusals of setting that come before anything is written.
use Rattle.std.specs.Prelude.{ℕ, cond, ◌||◌, List, length, nat_lt}
use Rattle.std.proofs.Math.Option.{Option, none, some}
use Rattle.records.specs.Tree.{Records}
use Rattle.records.specs.Checks.{first, label_fault, expr_fault}
use Rattle.code.specs.declared.ops.Instr.{Instr}
use Rattle.code.specs.declared.ops.Row.{Row}
use Rattle.meaning.specs.SetCode.{targets_fine, rows_fine, set_too_large}

-- The first fault: sizes, the name table's among them; labels; expressions; targets; rows; the memory for new places.
abbrev pub check_fault : Records → List ℕ → List Instr → List Row → ℕ → ℕ → Option ℕ
check_fault R names ops rows room places =
    first (cond (nat_lt 65536 (length names) || set_too_large R (length ops) room) (some 10) none)
    (first (label_fault R)
    (first (expr_fault R)
    (first (cond (targets_fine (length ops) ops) none (some 11))
    (first (cond (rows_fine (length R.exprs) rows) none (some 11))
    (cond (nat_lt places (length ops)) (some 23) none)))))
