use Rattle.std.proofs.Common.{◌-◌}
use Rattle.records.specs.Tree.{records}
use Rattle.records.specs.Accepts.{block_from}
use Rattle.meaning.specs.Breaks.{has_break_value}
use Rattle.scan.proofs.Scans.{Finds}
use Rattle.scan.proofs.has_break_value.Given as goal

abbrev pub invariant-loop-i : goal.invariant-loop-i
invariant-loop-i l = Finds (records l.script) l.to l.i (has_break_value (block_from (records l.script) l.from l.to))

abbrev pub decreases-loop-i : goal.decreases-loop-i
decreases-loop-i l = l.to - l.i
