use Rattle.std.proofs.Common.{◌+◌, ◌≤◌, List, get_or, ap, refl, add-one, arith, rules}
use Rattle.code.specs.declared.shapes.Loop.{Loop}
use Rattle.meaning.specs.LowerState.{add_break, no_loop}
use Rattle.stack64.specs.Listed.{listed}
use Rattle.lowering.specs.Fit.{placed}
use Rattle.lowering.specs.View.{low}
use Rattle.lowering.proofs.Around.{put_anew, counted-top, broken}
use Rattle.lowering.proofs.state.Lowering.add_break.Goals as goal

pub invariant_of-self-in-Some : goal.invariant_of-self-in-Some
invariant_of-self-in-Some c =
    let a = c.args.self.now in
    let l = c.in-Some.l in
    let xs = listed a.loops in
    let ys = listed c.replace_newest.new.self in
    let f = put_anew l _ xs c.replace_newest.result ys c.in-Some.ensures c.replace_newest.ensures in
    let few : l.breaks + 1 ≤ placed a.code.now = omega (arith, ap (λ (ls : List Loop). (get_or ls 0 no_loop).breaks) c.in-Some.ensures) in
    record { counted = counted-top (placed a.code.now) l _ xs ys c.in-Some.ensures f few a.counted; iterated = a.iterated; handled = a.handled }

pub returns-in-Some-clause-did : goal.returns-in-Some-clause-did
unfolding low add_break
returns-in-Some-clause-did c =
    let l = c.in-Some.l in
    let xs = listed c.args.self.now.loops in
    let ys = listed c.replace_newest.new.self in
    let f = put_anew l _ xs c.replace_newest.result ys c.in-Some.ensures c.replace_newest.ensures in
    let e = broken l _ xs ys c.in-Some.ensures f (rw (add-one l.breaks) refl) in
    search (rules, e)
