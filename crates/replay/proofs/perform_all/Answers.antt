use Rattle.std.proofs.Common.{◌<◌, length, arith, rules}
use Rattle.player.proofs.Plays.{kept-kept}
use Rattle.replay.proofs.Replays.{said_more, left-more, rest_more}
use Rattle.replay.proofs.perform_all.Goals as goal

pub loop-i-preserved : goal.loop-i-preserved
loop-i-preserved c =
    let n : c.loop-i.i < length c.args.calls.now = omega arith in
    let o : c.loop-i.i < length c.loop-i.out = omega arith in (
      kept-kept c.args.player.now c.loop-i.player c.perform.new.self c.loop-i.invariant.0 c.perform.ensures.kept,
      said_more c.args.player.now c.loop-i.player c.perform.new.self c.args.calls.now c.loop-i.out c.loop-i.i _ c.perform.result n o c.loop-i.invariant.0 c.loop-i.invariant.1 c.loop-i.invariant.2 c.perform.ensures.did,
      left-more c.args.player.now c.loop-i.player c.perform.new.self c.args.calls.now c.loop-i.i _ c.perform.result n c.loop-i.invariant.0 c.loop-i.invariant.2 c.perform.ensures.did,
      rest_more c.loop-i.i c.loop-i.out c.args.out.now c.perform.result c.loop-i.invariant.3,
    )

pub returns : goal.returns
returns c = search rules
