use Rattle.std.proofs.Common.{true, false, ap, ◌∙◌}
use Rattle.std.proofs.lemmas.Result.{err_from_is_err_and}
use Rattle.stack64.specs.Listed.{listed}
use Rattle.records.specs.Tree.{records}
use Rattle.records.specs.Numbers.{number_of}
use Rattle.records.proofs.Walks.{walk-stops, walk-on, walk_ends, opens, room, pushed}
use Rattle.records.proofs.checks.check_nodes.Goals as goal
use Rattle.records.proofs.checks.check_nodes.Goals.{then-has_body, else-has_body}

pub returns-in_err-kind : goal.returns-in_err-kind
returns-in_err-kind c =
    let p = err_from_is_err_and c.from_residual.result c.from_residual.ensures.1 in
    rw (p.1, p.2)
    (walk-stops (records c.args.script.now) c.loop-i.i (listed c.loop-i.nest) (listed c.close.new.nest)
    c.loop-i.invariant c.loop-i-test.true c.close.ensures (number_of c.in_err-kind.field-0.0) c.in_err-kind.ensures.answer)

pub unwrap-requires : goal.unwrap-requires
unwrap-requires c =
    (pushed _ _ _ c.push.result
    (room (records c.args.script.now) c.loop-i.i (listed c.close.new.nest) c.in_ok-kind.kind c.in_ok-kind.ensures.answer c.in_ok-kind.ensures.kind c.if-has_body.ensures)
    c.push.ensures).0

pub loop-i-preserved : goal.loop-i-preserved
loop-i-preserved c =
    let R = records c.args.script.now in
    walk-on R c.loop-i.i (listed c.loop-i.nest) (listed c.close.new.nest)
    c.loop-i.invariant c.loop-i-test.true c.close.ensures c.in_ok-kind.ensures.answer (listed c.if-has_body.nest)
    (elim c.if-has_body.branch [
      | then-has_body w ↦
          ap listed w.nest-is
          ∙ (pushed _ _ _ w.push.result (room R c.loop-i.i (listed c.close.new.nest) c.in_ok-kind.kind c.in_ok-kind.ensures.answer c.in_ok-kind.ensures.kind w.if-has_body.ensures) w.push.ensures).1
          ∙ opens R c.loop-i.i c.in_ok-kind.kind true c.in_ok-kind.ensures.kind w.if-has_body.ensures (listed c.close.new.nest)
      | else-has_body w ↦
          ap listed w.nest-is
          ∙ opens R c.loop-i.i c.in_ok-kind.kind false c.in_ok-kind.ensures.kind w.if-has_body.ensures (listed c.close.new.nest)
    ])

pub returns : goal.returns
returns c = walk_ends (records c.args.script.now) c.loop-i.i (listed c.loop-i.nest) c.loop-i.invariant c.loop-i-test.false
