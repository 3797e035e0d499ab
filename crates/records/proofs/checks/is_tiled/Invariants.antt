use Rattle.std.proofs.Common.{◌≡◌, ◌-◌}
use Rattle.records.specs.Tree.{records}
use Rattle.records.specs.Checks.{tiles}
use Rattle.records.proofs.checks.is_tiled.Given as goal

-- the hops from here on decide
abbrev pub invariant-loop-item : goal.invariant-loop-item
invariant-loop-item l =
    tiles (records l.script) (l.end - l.from) l.from l.end ≡ tiles (records l.script) (l.end - l.item) l.item l.end

abbrev pub decreases-loop-item : goal.decreases-loop-item
decreases-loop-item l = l.end - l.item
