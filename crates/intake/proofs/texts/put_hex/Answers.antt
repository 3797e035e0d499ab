use Rattle.std.proofs.Common.{vec_items, sym, ◌∙◌, rules}
use Rattle.intake.proofs.Bytes.{hexed-more, hexed-end}
use Rattle.intake.proofs.texts.put_hex.Goals as goal

pub loop-byte-preserved : goal.loop-byte-preserved
loop-byte-preserved c =
    let more = hexed-more c.args.bytes.now (vec_items c.loop-byte.out) c.loop-byte.byte-index c.loop-byte-test.true in
    let first = c.in_ok-push.ensures.items in
    let second = c.in_ok-push-2.ensures.items in
    search rules

pub returns : goal.returns
returns c = sym (c.loop-byte.invariant ∙ hexed-end c.args.bytes.now (vec_items c.loop-byte.out) c.loop-byte.byte-index c.loop-byte-test.false)
