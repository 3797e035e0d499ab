use Rattle.std.proofs.Common.{◌≡◌, true, ◌++◌, take, drop}
use Rattle.meaning.specs.SetCode.{targets_fine, shift_all}
use Rattle.setting.proofs.places.shift.Given as goal

-- the operations from here on are still to be moved
abbrev pub invariant-loop-x : goal.invariant-loop-x
invariant-loop-x l =
    (shift_all l.by l.initial.segment ≡ take l.x-index l.segment ++ shift_all l.by (drop l.x-index l.segment))
    × (targets_fine 65 (drop l.x-index l.segment) ≡ true)
