use Rattle.std.proofs.Common.{sym, ◌∙◌}
use Rattle.records.specs.Tree.{records}
use Rattle.records.specs.Accepts.{block_from}
use Rattle.scan.proofs.Scans.{found-hit, found-loop, found-next, finds-block}
use Rattle.scan.proofs.has_break_value.Goals as goal

pub loop-i-init : goal.loop-i-init
loop-i-init c = finds-block (records c.args.script.now) c.args.to (block_from (records c.args.script.now) c.args.from c.args.to) c.args.from c.requires.block.0

pub returns-then-is_valued_break : goal.returns-then-is_valued_break
returns-then-is_valued_break c =
    found-hit (records c.args.script.now) c.args.to c.loop-i.i _ c.loop-i.invariant c.loop-i-test.true (sym c.is_valued_break.ensures ∙ c.if-is_valued_break.true)

pub loop-i-preserved-then-is_loop : goal.loop-i-preserved-then-is_loop
loop-i-preserved-then-is_loop c = found-loop (records c.args.script.now) c.args.to c.loop-i.i _ c.loop-i.invariant c.loop-i-test.true c.if-is_valued_break.ensures c.if-is_loop.ensures

pub loop-i-preserved : goal.loop-i-preserved
loop-i-preserved c = found-next (records c.args.script.now) c.args.to c.loop-i.i _ c.loop-i.invariant c.loop-i-test.true c.if-is_valued_break.ensures c.if-is_loop.ensures
