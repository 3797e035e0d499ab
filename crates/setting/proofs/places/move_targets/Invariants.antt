use Rattle.std.proofs.Common.{◌≡◌, true, length, get_or, drop}
use Rattle.meaning.specs.SetCode.{targets_fine}
use Rattle.setting.specs.Set.{moved_from}
use Rattle.setting.proofs.places.move_targets.Given as goal

-- the operations from here on are still to be moved
abbrev pub invariant-loop-x : goal.invariant-loop-x
invariant-loop-x l =
    (moved_from l.code.rows.now (λ t. get_or l.places t 0) 0 l.code.ops.now l.initial.out ≡ moved_from l.code.rows.now (λ t. get_or l.places t 0) (length l.yielded) (drop (length l.yielded) l.code.ops.now) l.out)
    × (targets_fine (length l.places) (drop (length l.yielded) l.code.ops.now) ≡ true)
