use Rattle.std.proofs.Common.{◌+◌, set, sym, refl, ap, ◌∙◌, add-one, arith}
use Rattle.records.specs.Tree.{records, expr_at}
use Rattle.meaning.specs.Writers.{plain}
use Rattle.writers.specs.Write.{tables_for}
use Rattle.writers.proofs.Puts.{ahead, done, one, begin, finish, ranged, long, counts, turn}
use Rattle.writers.proofs.written.+put.Goals as goal

pub bounds-out-at : goal.bounds-out-at
bounds-out-at t c =
    let x = one (tables_for c.args.named.now) (records c.args.named.now.script) c.args.named.now.checked c.args.expr c.args.at c.args.out.now (sym c.in_default.ensures) in
    omega (arith, x.0, c.requires.within)

pub returns-in_default : goal.returns-in_default
returns-in_default t c =
    let x = one (tables_for c.args.named.now) (records c.args.named.now.script) c.args.named.now.checked c.args.expr c.args.at c.args.out.now (sym c.in_default.ensures) in
    record { place = x.0; after = ap (set c.args.out.now c.args.at) (c.bare.ensures ∙ ap plain c.leaf.ensures) ∙ x.1 }

pub items_size-requires : goal.items_size-requires
items_size-requires t c = let r = ranged c.args.named.now c.args.expr c.requires.inside.0 c.requires.inside.1 in record { within = r.within; ordered = omega arith }

pub overflow_add-decided : goal.overflow_add-decided
overflow_add-decided t c =
    let s = long c.args.named.now c.args.expr c.requires.inside.0 c.requires.inside.1 c.in-Some.on c.in-Some.ensures in
    let k = counts c.args.named.now c.args.expr c.requires.inside.0 c.requires.inside.1 c.in-Some.on c.in-Some.ensures c.items_size.result c.items_size.ensures (omega (arith, c.requires.short)) in
    omega (arith, c.requires.short)

pub overflow_add-decided-2 : goal.overflow_add-decided-2
overflow_add-decided-2 t c =
    let s = long c.args.named.now c.args.expr c.requires.inside.0 c.requires.inside.1 c.in-Some.on c.in-Some.ensures in
    let k = counts c.args.named.now c.args.expr c.requires.inside.0 c.requires.inside.1 c.in-Some.on c.in-Some.ensures c.items_size.result c.items_size.ensures (omega (arith, c.requires.short)) in
    omega (arith, c.requires.short)

pub overflow_cast-decided : goal.overflow_cast-decided
overflow_cast-decided t c =
    let s = long c.args.named.now c.args.expr c.requires.inside.0 c.requires.inside.1 c.in-Some.on c.in-Some.ensures in
    let k = counts c.args.named.now c.args.expr c.requires.inside.0 c.requires.inside.1 c.in-Some.on c.in-Some.ensures c.items_size.result c.items_size.ensures (omega (arith, c.requires.short)) in
    omega (arith, c.requires.short)

pub loop-item-init : goal.loop-item-init
loop-item-init t c =
    (omega arith, begin (tables_for c.args.named.now) (records c.args.named.now.script) c.args.named.now.checked c.args.expr c.in-Some.on (sym c.in-Some.ensures) c.requires.inside.0 c.requires.inside.1 _ c.args.at (c.args.expr + 1) c.args.out.now (add-one c.args.expr))

pub put-place-requires : goal.put-place-requires
put-place-requires t c =
    let r = ranged c.args.named.now c.args.expr c.requires.inside.0 c.requires.inside.1 in
    let s = long c.args.named.now c.args.expr c.requires.inside.0 c.requires.inside.1 c.in-Some.on c.in-Some.ensures in
    let x = turn c.args.named.now c.args.expr c.requires.inside.0 c.requires.inside.1 c.in-Some.on _ _ _ c.loop-item.item c.loop-item.place c.loop-item.out c.loop-item.invariant.1 c.loop-item-test.true in
    let past = c.loop-item.invariant.0 in
    let same = c.loop-item.auto.out in
    (omega arith, ((omega arith, omega arith), (omega (arith, c.requires.within), omega (arith, c.requires.short))))

pub bounds-exprs-item : goal.bounds-exprs-item
bounds-exprs-item t c = let r = ranged c.args.named.now c.args.expr c.requires.inside.0 c.requires.inside.1 in omega (arith, c.loop-item-test.true)

pub bounds-exprs-item-in-loop-item : goal.bounds-exprs-item-in-loop-item
bounds-exprs-item-in-loop-item t c = let r = ranged c.args.named.now c.args.expr c.requires.inside.0 c.requires.inside.1 in omega (arith, c.loop-item-test.true)

pub offset_bounds-out-place : goal.offset_bounds-out-place
offset_bounds-out-place t c =
    let s = long c.args.named.now c.args.expr c.requires.inside.0 c.requires.inside.1 c.in-Some.on c.in-Some.ensures in
    let x = turn c.args.named.now c.args.expr c.requires.inside.0 c.requires.inside.1 c.in-Some.on _ _ _ c.loop-item.item c.loop-item.place c.loop-item.out c.loop-item.invariant.1 c.loop-item-test.true in
    let same = c.loop-item.auto.out in
    let kept = c.put-place.auto.out in
    let p = c.put-place.ensures.place in
    omega (arith, c.requires.within, c.requires.short)

pub bounds-out-place : goal.bounds-out-place
bounds-out-place t c =
    let s = long c.args.named.now c.args.expr c.requires.inside.0 c.requires.inside.1 c.in-Some.on c.in-Some.ensures in
    let x = turn c.args.named.now c.args.expr c.requires.inside.0 c.requires.inside.1 c.in-Some.on _ _ _ c.loop-item.item c.loop-item.place c.loop-item.out c.loop-item.invariant.1 c.loop-item-test.true in
    let same = c.loop-item.auto.out in
    let kept = c.put-place.auto.out in
    let p = c.put-place.ensures.place in
    omega (arith, c.requires.within, c.requires.short)

pub overflow_add-place : goal.overflow_add-place
overflow_add-place t c =
    let s = long c.args.named.now c.args.expr c.requires.inside.0 c.requires.inside.1 c.in-Some.on c.in-Some.ensures in
    let x = turn c.args.named.now c.args.expr c.requires.inside.0 c.requires.inside.1 c.in-Some.on _ _ _ c.loop-item.item c.loop-item.place c.loop-item.out c.loop-item.invariant.1 c.loop-item-test.true in
    let same = c.loop-item.auto.out in
    let kept = c.put-place.auto.out in
    let p = c.put-place.ensures.place in
    omega (arith, c.requires.within, c.requires.short)

pub loop-item-smaller : goal.loop-item-smaller
loop-item-smaller t c =
    let x = turn c.args.named.now c.args.expr c.requires.inside.0 c.requires.inside.1 c.in-Some.on _ _ _ c.loop-item.item c.loop-item.place c.loop-item.out c.loop-item.invariant.1 c.loop-item-test.true in
    omega arith

pub loop-item-preserved : goal.loop-item-preserved
loop-item-preserved t c =
    let r = ranged c.args.named.now c.args.expr c.requires.inside.0 c.requires.inside.1 in
    let x = turn c.args.named.now c.args.expr c.requires.inside.0 c.requires.inside.1 c.in-Some.on _ _ _ c.loop-item.item c.loop-item.place c.loop-item.out c.loop-item.invariant.1 c.loop-item-test.true in
    let past = c.loop-item.invariant.0 in (
      omega arith,
      ahead (tables_for c.args.named.now) (records c.args.named.now.script) c.args.named.now.checked c.in-Some.on _ (expr_at (records c.args.named.now.script) c.args.expr).end _ _ c.loop-item.item c.loop-item.place c.loop-item.out c.loop-item.invariant.1 r.within c.loop-item-test.true
          c.put-place.new.out _ c.put-place.result (c.put-place.result + 1) c.test.result c.put-place.ensures.place c.put-place.ensures.after c.test.ensures refl refl,
    )

pub close-requires : goal.close-requires
close-requires t c =
    let r = ranged c.args.named.now c.args.expr c.requires.inside.0 c.requires.inside.1 in
    let s = long c.args.named.now c.args.expr c.requires.inside.0 c.requires.inside.1 c.in-Some.on c.in-Some.ensures in
    let g = done (tables_for c.args.named.now) (records c.args.named.now.script) c.args.named.now.checked c.in-Some.on _ (expr_at (records c.args.named.now.script) c.args.expr).end _ _ c.loop-item.item c.loop-item.place c.loop-item.out c.loop-item.invariant.1 r.within c.loop-item-test.false in
    let same = c.loop-item.auto.out in
    let p = g.0 in
    record { within = omega (arith, c.requires.within); short = omega (arith, c.requires.short) }

pub returns : goal.returns
returns t c =
    let T = tables_for c.args.named.now in
    let R = records c.args.named.now.script in
    let r = ranged c.args.named.now c.args.expr c.requires.inside.0 c.requires.inside.1 in
    let s = long c.args.named.now c.args.expr c.requires.inside.0 c.requires.inside.1 c.in-Some.on c.in-Some.ensures in
    let k = counts c.args.named.now c.args.expr c.requires.inside.0 c.requires.inside.1 c.in-Some.on c.in-Some.ensures c.items_size.result c.items_size.ensures (omega (arith, c.requires.short)) in
    let g = done T R c.args.named.now.checked c.in-Some.on _ (expr_at R c.args.expr).end _ _ c.loop-item.item c.loop-item.place c.loop-item.out c.loop-item.invariant.1 r.within c.loop-item-test.false in
    let f = finish T R c.args.named.now.checked c.args.expr c.in-Some.on (sym c.in-Some.ensures) _ c.args.at c.loop-item.place c.args.out.now c.loop-item.out c.close.new.out g.0 (omega (arith, g.0)) g.1 c.close.ensures.after in
    record { place = c.close.ensures.place ∙ f.0; after = f.1 }
