use Rattle.std.proofs.Common.{rules, ◌+◌, ◌≤◌, sym, ap, ◌∙◌, subst, arith, nat_lt}
use Rattle.records.specs.declared.types.Script.{Script}
use Rattle.records.specs.Tree.{records, node_at, exp_of, name_of, if_any}
use Rattle.records.specs.Accepts.{block_from, stmt_from}
use Rattle.meaning.specs.Breaks.{has_break_value}
use Rattle.meaning.specs.LowerState.{Out.ok, Out.no}
use Rattle.meaning.specs.Lower.{some as some_m, lower as lower_m, lower_list}
use Rattle.lowering.specs.View.{Parts, low}
use Rattle.statements.specs.Parts.{loop_variable}
use Rattle.blocks.specs.Whole.{inner}
use Rattle.blocks.proofs.Levels.{block-refused, block-not-unwound, block-runs}
use Rattle.blocks.proofs.Lists.{some-is, list-over, list-not-popped, list-no-checkpoint, list-refused, list-goes-on}
use Rattle.blocks.proofs.Wholes.{moved, inner-after, refused, while-no-body, while-runs, for-runs, if-no-past, if-no-branch, if-runs, try-no-past, try-no-catch, try-not-caught, try-runs}
use Rattle.blocks.proofs.blocks.+block_conditional_do_loop_for_loop_statement_statements_try_catch_while_loop.Goals as goal

pub block-returns-in_err-lowered-clause-did : goal.block-returns-in_err-lowered-clause-did
unfolding low
block-returns-in_err-lowered-clause-did t c =
    refused _ c.in_err-lowered.field-0.0 c.from_residual.result (low c.drop-inside.new.self.0)
    (block-refused c.args.c.now c.args.from c.args.to c.count.result c.depth-outside.result c.depth-outside.ensures c.count.ensures.0 c.in_err-lowered.ensures.did) c.from_residual.ensures.1

pub block-returns-in_err-unwind_to-clause-did : goal.block-returns-in_err-unwind_to-clause-did
unfolding low
block-returns-in_err-unwind_to-clause-did t c =
    refused _ c.in_err-unwind_to.field-0.0 c.from_residual-in_err-unwind_to.result (low c.drop-inside-in_err-unwind_to.new.self.0)
    (block-not-unwound c.args.c.now c.args.from c.args.to c.count.result c.depth-outside.result c.depth-outside.ensures c.count.ensures.0 c.in_ok-lowered.ensures.did c.in_err-unwind_to.ensures.did) c.from_residual-in_err-unwind_to.ensures.1

pub block-returns-clause-did : goal.block-returns-clause-did
unfolding low
block-returns-clause-did t c =
    block-runs c.args.c.now c.args.from c.args.to c.count.result c.depth-outside.result c.depth-outside.ensures c.count.ensures.0
    c.in_ok-lowered.ensures.did c.unwind_to.new.self c.drop-inside-2.new.self.0 c.in_ok-unwind_to.ensures.did c.drop-inside-2.ensures

pub conditional-returns-in_err-past-clause-did : goal.conditional-returns-in_err-past-clause-did
conditional-returns-in_err-past-clause-did t c =
    let R = records c.args.c.now.script in
    let n = node_at R c.args.i in
    let p = c.requires.sound.nodes c.args.i (omega arith) c.requires.at.0 in
    let body = inner-after c.args.c.now c.begin_if.new.c (c.args.i + 1) n.mid c.begin_if.ensures.lent.0 c.in_ok-then.ensures.did in
    refused _ c.in_err-past.field-0.0 c.from_residual-in_err-past.result (low c.end_then.new.c)
    (if-no-past R (exp_of R n.expr) (inner R (c.args.i + 1) n.mid) (some_m R (block_from R n.mid n.end)) (nat_lt n.mid n.end) (inner R n.mid n.end) (low c.args.c.now)
    (some-is R c.requires.sound n.mid n.end p.within) c.in_ok-to_else.ensures.did body c.in_err-past.ensures.did)
    c.from_residual-in_err-past.ensures.1

pub conditional-returns-in_err-otherwise-clause-did :
    goal.conditional-returns-in_err-otherwise-clause-did
conditional-returns-in_err-otherwise-clause-did t c =
    let R = records c.args.c.now.script in
    let n = node_at R c.args.i in
    let p = c.requires.sound.nodes c.args.i (omega arith) c.requires.at.0 in
    let body = inner-after c.args.c.now c.begin_if.new.c (c.args.i + 1) n.mid c.begin_if.ensures.lent.0 c.in_ok-then.ensures.did in
    let branch = inner-after c.args.c.now c.end_then.new.c n.mid n.end (c.end_then.ensures.lent.0 ∙ c.block.ensures.lent.0 ∙ c.begin_if.ensures.lent.0) c.in_err-otherwise.ensures.did in
    refused _ c.in_err-otherwise.field-0.0 c.from_residual-in_err-otherwise.result (low c.block-2.new.c)
    (if-no-branch R (exp_of R n.expr) (inner R (c.args.i + 1) n.mid) (some_m R (block_from R n.mid n.end)) (nat_lt n.mid n.end) (inner R n.mid n.end) (low c.args.c.now)
    (some-is R c.requires.sound n.mid n.end p.within) c.in_ok-to_else.ensures.did body c.in_ok-past.ensures.did branch)
    c.from_residual-in_err-otherwise.ensures.1

pub conditional-returns-clause-did : goal.conditional-returns-clause-did
conditional-returns-clause-did t c =
    let R = records c.args.c.now.script in
    let n = node_at R c.args.i in
    let p = c.requires.sound.nodes c.args.i (omega arith) c.requires.at.0 in
    let body = inner-after c.args.c.now c.begin_if.new.c (c.args.i + 1) n.mid c.begin_if.ensures.lent.0 c.in_ok-then.ensures.did in
    let branch = inner-after c.args.c.now c.end_then.new.c n.mid n.end (c.end_then.ensures.lent.0 ∙ c.block.ensures.lent.0 ∙ c.begin_if.ensures.lent.0) c.in_ok-otherwise.ensures.did in
    if-runs R (exp_of R n.expr) (inner R (c.args.i + 1) n.mid) (some_m R (block_from R n.mid n.end)) (nat_lt n.mid n.end) (inner R n.mid n.end) (low c.args.c.now)
    (some-is R c.requires.sound n.mid n.end p.within) c.in_ok-to_else.ensures.did body c.in_ok-past.ensures.did branch c.meet.ensures.did

pub for_loop-returns-clause-did : goal.for_loop-returns-clause-did
for_loop-returns-clause-did t c =
    let R = records c.args.c.now.script in
    let n = node_at R c.args.i in
    let variable = moved (λ R. loop_variable R (name_of R n.label)) c.args.c.now.script c.open_iterator.new.c.script (low c.open_iterator.new.c) (ok tt (low c.loop_variable.new.c)) c.open_iterator.ensures.lent.0 c.in_ok-loop_variable.ensures.did in
    let body = inner-after c.args.c.now c.begin_for.new.c (c.args.i + 1) n.mid (c.begin_for.ensures.lent.0 ∙ c.loop_variable.ensures.lent.0 ∙ c.open_iterator.ensures.lent.0) c.in_ok-body.ensures.did in
    for-runs R (name_of R n.label) (exp_of R n.expr) n.mark (has_break_value (block_from R (c.args.i + 1) n.mid)) c.has_break_value-valued.result (inner R (c.args.i + 1) n.mid) (low c.args.c.now)
    c.has_break_value-valued.ensures c.depth-outside.ensures c.in_ok-open_iterator.ensures.did variable c.in_ok-round.ensures.did body c.end_round.ensures.did

pub statements-returns-in_err-emit_if_value-clause-did :
    goal.statements-returns-in_err-emit_if_value-clause-did
statements-returns-in_err-emit_if_value-clause-did t c =
    let R = records c.args.c.now.script in
    let v = c.loop-i.invariant in
    refused _ c.in_err-emit_if_value.field-0.0 c.from_residual.result (low c.emit_if_value.new.c)
    (v.gives ∙ list-not-popped R c.keeps_scope-keep.result c.loop-i.lowered c.loop-i.i c.args.to (low c.loop-i.c)
    c.requires.sound c.loop-i-test.true c.requires.within.0 c.in_err-emit_if_value.ensures.did)
    c.from_residual.ensures.1

pub statements-returns-in_err-emit_if-clause-did :
    goal.statements-returns-in_err-emit_if-clause-did
statements-returns-in_err-emit_if-clause-did t c =
    let R = records c.args.c.now.script in
    let v = c.loop-i.invariant in
    refused _ c.in_err-emit_if.field-0.0 c.from_residual-in_err-emit_if.result (low c.emit_if.new.self)
    (v.gives ∙ list-no-checkpoint R c.keeps_scope-keep.result c.loop-i.lowered c.loop-i.i c.args.to (low c.loop-i.c)
    c.requires.sound c.loop-i-test.true c.requires.within.0 c.in_ok-emit_if_value.ensures.did c.in_err-emit_if.ensures.did)
    c.from_residual-in_err-emit_if.ensures.1

pub statements-returns-in_err-lowered-clause-did :
    goal.statements-returns-in_err-lowered-clause-did
statements-returns-in_err-lowered-clause-did t c =
    let R = records c.args.c.now.script in
    let v = c.loop-i.invariant in
    let lowered = moved (λ R. lower_m R (stmt_from R c.loop-i.i)) c.args.c.now.script c.emit_if.new.self.script (low c.emit_if.new.self) (no c.in_err-lowered.field-0.0) (c.emit_if.ensures.lent.0 ∙ c.emit_if_value.ensures.lent.0 ∙ v.kept.0) c.in_err-lowered.ensures.did in
    refused _ c.in_err-lowered.field-0.0 c.from_residual-in_err-lowered.result (low c.statement.new.c)
    (v.gives ∙ list-refused R c.keeps_scope-keep.result c.loop-i.lowered c.loop-i.i c.args.to (low c.loop-i.c)
    c.requires.sound c.loop-i-test.true c.requires.within.0 c.in_ok-emit_if_value.ensures.did c.in_ok-emit_if.ensures.did lowered)
    c.from_residual-in_err-lowered.ensures.1

pub statements-loop-i-preserved : goal.statements-loop-i-preserved
statements-loop-i-preserved t c =
    let R = records c.args.c.now.script in
    let v = c.loop-i.invariant in
    let lowered = moved (λ R. lower_m R (stmt_from R c.loop-i.i)) c.args.c.now.script c.emit_if.new.self.script (low c.emit_if.new.self) (ok c.in_ok-lowered.lowered (low c.statement.new.c)) (c.emit_if.ensures.lent.0 ∙ c.emit_if_value.ensures.lent.0 ∙ v.kept.0) c.in_ok-lowered.ensures.did in
    let e = c.statement.ensures.lent.0 ∙ c.emit_if.ensures.lent.0 ∙ c.emit_if_value.ensures.lent.0 ∙ v.kept.0 in
    let p = c.requires.sound.nodes c.loop-i.i (omega arith) (omega arith) in
    let past : c.args.from ≤ (node_at R c.loop-i.i).end = omega (arith, p.after, p.ordered, v.after) in
    let step = list-goes-on R c.keeps_scope-keep.result c.loop-i.lowered c.loop-i.i c.args.to (low c.loop-i.c)
    c.requires.sound c.loop-i-test.true c.requires.within.0 c.in_ok-emit_if_value.ensures.did c.in_ok-emit_if.ensures.did lowered in
    record {
      after = subst (λ (s : Script). c.args.from ≤ (node_at (records s) c.loop-i.i).end) (sym e) past;
      kept = search rules;
      around = c.statement.ensures.around ∙ (ap (λ (p : Parts). p.block) c.emit_if.ensures.only ∙ (ap (λ (p : Parts). p.block) c.emit_if_value.ensures.only ∙ v.around));
      limit = search rules;
      gives = v.gives ∙ (step ∙ ap (λ (s : Script). lower_list R c.keeps_scope-keep.result c.in_ok-lowered.lowered (block_from R (node_at (records s) c.loop-i.i).end c.args.to) (low c.statement.new.c)) (sym e));
    }

pub statements-returns-clause-did : goal.statements-returns-clause-did
statements-returns-clause-did t c =
    let R = records c.args.c.now.script in
    let v = c.loop-i.invariant in
    v.gives ∙ list-over R c.keeps_scope-keep.result c.loop-i.lowered c.loop-i.i c.args.to (low c.loop-i.c) c.loop-i-test.false

pub try_catch-returns-in_err-past-clause-did : goal.try_catch-returns-in_err-past-clause-did
try_catch-returns-in_err-past-clause-did t c =
    let R = records c.args.c.now.script in
    let n = node_at R c.args.i in
    let x = if_any (name_of R) n.label in
    let body = inner-after c.args.c.now c.begin_try.new.c (c.args.i + 1) n.mid c.begin_try.ensures.lent.0 c.in_ok-body.ensures.did in
    refused _ c.in_err-past.field-0.0 c.from_residual-in_err-past.result (low c.end_body.new.c)
    (try-no-past R x n.mark (inner R (c.args.i + 1) n.mid) (inner R n.mid n.end) (low c.args.c.now)
    c.in_ok-site.ensures.did body (c.in_err-past.ensures.did R))
    c.from_residual-in_err-past.ensures.1

pub try_catch-returns-in_err-outside-clause-did : goal.try_catch-returns-in_err-outside-clause-did
try_catch-returns-in_err-outside-clause-did t c =
    let R = records c.args.c.now.script in
    let n = node_at R c.args.i in
    let x = if_any (name_of R) n.label in
    let body = inner-after c.args.c.now c.begin_try.new.c (c.args.i + 1) n.mid c.begin_try.ensures.lent.0 c.in_ok-body.ensures.did in
    refused _ c.in_err-outside.field-0.0 c.from_residual-in_err-outside.result (low c.begin_catch.new.c)
    (try-no-catch R x n.mark (inner R (c.args.i + 1) n.mid) (inner R n.mid n.end) (low c.args.c.now)
    c.in_ok-site.ensures.did body (c.in_ok-past.ensures.did R) (c.in_err-outside.ensures.did R))
    c.from_residual-in_err-outside.ensures.1

pub try_catch-returns-in_err-caught-clause-did : goal.try_catch-returns-in_err-caught-clause-did
try_catch-returns-in_err-caught-clause-did t c =
    let R = records c.args.c.now.script in
    let n = node_at R c.args.i in
    let x = if_any (name_of R) n.label in
    let body = inner-after c.args.c.now c.begin_try.new.c (c.args.i + 1) n.mid c.begin_try.ensures.lent.0 c.in_ok-body.ensures.did in
    let branch = inner-after c.args.c.now c.begin_catch.new.c n.mid n.end (c.begin_catch.ensures.lent.0 ∙ c.end_body.ensures.lent.0 ∙ c.block.ensures.lent.0 ∙ c.begin_try.ensures.lent.0) c.in_err-caught.ensures.did in
    refused _ c.in_err-caught.field-0.0 c.from_residual-in_err-caught.result (low c.block-2.new.c)
    (try-not-caught R x n.mark (inner R (c.args.i + 1) n.mid) (inner R n.mid n.end) (low c.args.c.now)
    c.in_ok-site.ensures.did body (c.in_ok-past.ensures.did R) (c.in_ok-outside.ensures.did R) branch)
    c.from_residual-in_err-caught.ensures.1

pub try_catch-returns-clause-did : goal.try_catch-returns-clause-did
try_catch-returns-clause-did t c =
    let R = records c.args.c.now.script in
    let n = node_at R c.args.i in
    let x = if_any (name_of R) n.label in
    let body = inner-after c.args.c.now c.begin_try.new.c (c.args.i + 1) n.mid c.begin_try.ensures.lent.0 c.in_ok-body.ensures.did in
    let branch = inner-after c.args.c.now c.begin_catch.new.c n.mid n.end (c.begin_catch.ensures.lent.0 ∙ c.end_body.ensures.lent.0 ∙ c.block.ensures.lent.0 ∙ c.begin_try.ensures.lent.0) c.in_ok-caught.ensures.did in
    try-runs R x n.mark (inner R (c.args.i + 1) n.mid) (inner R n.mid n.end) (low c.args.c.now)
    c.in_ok-site.ensures.did body (c.in_ok-past.ensures.did R) (c.in_ok-outside.ensures.did R) branch c.end_caught.ensures.did

pub while_loop-returns-in_err-body-clause-did : goal.while_loop-returns-in_err-body-clause-did
while_loop-returns-in_err-body-clause-did t c =
    let R = records c.args.c.now.script in
    let n = node_at R c.args.i in
    let body = inner-after c.args.c.now c.begin_while.new.c (c.args.i + 1) n.mid c.begin_while.ensures.lent.0 c.in_err-body.ensures.did in
    refused _ c.in_err-body.field-0.0 c.from_residual-in_err-body.result (low c.block.new.c)
    (while-no-body R (exp_of R n.expr) n.mark (has_break_value (block_from R (c.args.i + 1) n.mid)) c.has_break_value-valued.result (inner R (c.args.i + 1) n.mid) (low c.args.c.now)
    c.has_break_value-valued.ensures c.in_ok-round.ensures.did body)
    c.from_residual-in_err-body.ensures.1

pub while_loop-returns-clause-did : goal.while_loop-returns-clause-did
while_loop-returns-clause-did t c =
    let R = records c.args.c.now.script in
    let n = node_at R c.args.i in
    let body = inner-after c.args.c.now c.begin_while.new.c (c.args.i + 1) n.mid c.begin_while.ensures.lent.0 c.in_ok-body.ensures.did in
    while-runs R (exp_of R n.expr) n.mark (has_break_value (block_from R (c.args.i + 1) n.mid)) c.has_break_value-valued.result (inner R (c.args.i + 1) n.mid) (low c.args.c.now)
    c.has_break_value-valued.ensures c.in_ok-round.ensures.did body c.end_while.ensures.did
