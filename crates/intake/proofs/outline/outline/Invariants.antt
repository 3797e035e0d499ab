use Rattle.std.proofs.Common.{◌≡◌, drop, vec_items}
use Rattle.records.specs.Tree.{records}
use Rattle.intake.specs.Outlines.{outline_text, outline_from}
use Rattle.intake.proofs.outline.outline.Given as goal

-- The statements that are left go on from what is printed.
abbrev pub invariant-loop-place : goal.invariant-loop-place
invariant-loop-place l = outline_text (records l.script) (vec_items l.initial.out) ≡ outline_from (records l.script) l.place (drop l.place l.script.nodes.now) (vec_items l.around) (vec_items l.out)
