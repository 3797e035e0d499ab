use Rattle.std.proofs.Common.{◌≡◌, length}
use Rattle.stack64.specs.Listed.{listed}
use Rattle.meaning.specs.Throws.{roused}
use Rattle.player.proofs.machine.throws.rouse.Given as goal

abbrev pub invariant-loop-handler : goal.invariant-loop-handler
invariant-loop-handler l = roused (listed l.handlers) ≡ roused (listed l.initial.handlers)

abbrev pub decreases-loop-handler : goal.decreases-loop-handler
decreases-loop-handler l = length (listed l.handlers)
