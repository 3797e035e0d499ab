use Rattle.std.proofs.Common.{◌≡◌, ℕ, ◌<◌, get_or}
use Rattle.blanks.proofs.blank_from.Given as goal

-- blank up to here
abbrev pub invariant-loop-item : goal.invariant-loop-item
invariant-loop-item g l = (k : ℕ) → k < l.item-index → get_or l.item-items k l.blank ≡ l.blank
