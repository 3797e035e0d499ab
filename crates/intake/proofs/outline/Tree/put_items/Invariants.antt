use Rattle.std.proofs.Common.{◌≡◌, ◌+◌, ◌-◌, vec_items}
use Rattle.records.specs.Tree.{records}
use Rattle.intake.specs.Outlines.{items_text}
use Rattle.intake.proofs.outline.Tree.put_items.Given as goal

-- The items that are left go on from what is printed.
abbrev pub invariant-loop-number : goal.invariant-loop-number
invariant-loop-number l = items_text (records l.self.script) l.count (l.first + 1) (vec_items l.initial.out) ≡ items_text (records l.self.script) (l.first + 1 + l.count - l.number) l.number (vec_items l.out)
