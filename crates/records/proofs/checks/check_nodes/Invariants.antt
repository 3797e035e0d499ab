use Rattle.std.proofs.Common.{◌≡◌, ◌-◌, [], length}
use Rattle.records.specs.Tree.{records}
use Rattle.stack64.specs.Listed.{listed}
use Rattle.records.specs.Checks.{walk}
use Rattle.records.proofs.checks.check_nodes.Given as goal

-- the statements from here on decide
abbrev pub invariant-loop-i : goal.invariant-loop-i
invariant-loop-i l =
    walk (records l.script) (length (records l.script).nodes) 0 []
    ≡ walk (records l.script) (length (records l.script).nodes - l.i) l.i (listed l.nest)
