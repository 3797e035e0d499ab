use Rattle.std.proofs.Common.{arith}
use Rattle.std.proofs.lemmas.Grind.{common_steps}
use Rattle.records.specs.Tree.{records}
use Rattle.meaning.specs.Writers.{written}
use Rattle.writers.specs.Write.{tables_for, reading}
use Rattle.writers.proofs.Puts.{ranged, scanned, sets-start}
use Rattle.writers.proofs.written.WrittenWriter.write.Goals as goal

pub items_size-size-requires : goal.items_size-size-requires
items_size-size-requires c =
    let i = c.has.ensures.inside c.if-not-has.false in
    let r = ranged c.args.named.now c.args.expr i.0 i.1 in
    record { within = r.within; ordered = omega arith }

pub overflow_sub-size : goal.overflow_sub-size
overflow_sub-size c =
    let n = c.args.named.now in
    let i = c.has.ensures.inside c.if-not-has.false in
    let s = scanned (tables_for n) (records n.script) n.checked c.args.expr i.0 i.1 c.items_size-size.result c.items_size-size.ensures in
    s.some

pub returns-then-size-gt-LONGEST : goal.returns-then-size-gt-LONGEST
returns-then-size-gt-LONGEST c =
    let n = c.args.named.now in
    let i = c.has.ensures.inside c.if-not-has.false in
    let s = scanned (tables_for n) (records n.script) n.checked c.args.expr i.0 i.1 c.items_size-size.result c.items_size-size.ensures in
    let k = s.past c.if-size-gt-LONGEST.true in
    record { answer = grind (arith, common_steps, k); after = grind (arith, common_steps, k) }

pub returns-then-out-size : goal.returns-then-out-size
returns-then-out-size c =
    let n = c.args.named.now in
    let i = c.has.ensures.inside c.if-not-has.false in
    let s = scanned (tables_for n) (records n.script) n.checked c.args.expr i.0 i.1 c.items_size-size.result c.items_size-size.ensures in
    let k = s.fits (omega (arith, c.if-size-gt-LONGEST.false)) in
    record { answer = grind (arith, common_steps, k.0, k.1); after = grind (arith, common_steps, k.0, k.1) }

pub put-requires : goal.put-requires
put-requires c =
    let n = c.args.named.now in
    let i = c.has.ensures.inside c.if-not-has.false in
    let s = scanned (tables_for n) (records n.script) n.checked c.args.expr i.0 i.1 c.items_size-size.result c.items_size-size.ensures in
    let k = s.fits (omega (arith, c.if-size-gt-LONGEST.false)) in
    record { inside = i; within = omega (arith, k.2, c.if-out-size.false); short = omega (arith, k.2, c.if-size-gt-LONGEST.false) }

pub returns : goal.returns
returns c =
    let n = c.args.named.now in
    let i = c.has.ensures.inside c.if-not-has.false in
    let s = scanned (tables_for n) (records n.script) n.checked c.args.expr i.0 i.1 c.items_size-size.result c.items_size-size.ensures in
    let k = s.fits (omega (arith, c.if-size-gt-LONGEST.false)) in
    let start = sets-start c.args.out.now (written (tables_for n) (reading n c.args.expr) 0) in
    record { answer = grind (arith, common_steps, k.0, k.1, k.2, c.put.ensures.place); after = grind (arith, common_steps, k.0, k.1, start, c.put.ensures.after) }
