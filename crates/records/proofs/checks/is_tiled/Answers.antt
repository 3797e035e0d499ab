use Rattle.std.proofs.Common.{sym, ◌∙◌, inl, inr}
use Rattle.records.specs.Tree.{records}
use Rattle.records.proofs.Tiles.{tiles-on, tiles-back, tiles-past, tiles-end}
use Rattle.records.proofs.checks.is_tiled.Goals as goal

pub returns-then-next-item : goal.returns-then-next-item
returns-then-next-item c =
    elim c.then-next-item.either [
      | inl back ↦ tiles-back (records c.args.script.now) c.loop-item.item c.args.end c.loop-item-test.true back ∙ sym c.loop-item.invariant
      | inr past ↦ tiles-past (records c.args.script.now) c.loop-item.item c.args.end c.loop-item-test.true past.1 ∙ sym c.loop-item.invariant
    ]

pub loop-item-preserved : goal.loop-item-preserved
loop-item-preserved c =
    c.loop-item.invariant
    ∙ tiles-on (records c.args.script.now) c.loop-item.item c.args.end c.loop-item-test.true c.if-next-item.false c.if-next-end.false

pub returns : goal.returns
returns c = tiles-end (records c.args.script.now) c.loop-item.item c.args.end c.loop-item-test.false ∙ sym c.loop-item.invariant
