use Rattle.std.proofs.Common.{◌≡◌, length}
use Rattle.records.specs.Checks.{closed}
use Rattle.stack64.specs.Listed.{listed}
use Rattle.records.proofs.nest.close.Given as goal

-- what is still to be closed decides
abbrev pub invariant-loop-open : goal.invariant-loop-open
invariant-loop-open l = closed l.i (listed l.initial.nest) ≡ closed l.i (listed l.nest)

abbrev pub decreases-loop-open : goal.decreases-loop-open
decreases-loop-open l = length (listed l.nest)
