use Rattle.std.proofs.Common.{◌≡◌, map, take, drop}
use Rattle.meaning.specs.Calls.{after_calls, replies}
use Rattle.player.specs.Replies.{call_of, reply_of}
use Rattle.player.specs.Players.{Kept}
use Rattle.player.specs.States.{state}
use Rattle.replay.proofs.perform_all.Given as goal

abbrev pub invariant-loop-i : goal.invariant-loop-i
invariant-loop-i l =
    Kept l.initial.player l.player
    × (map reply_of (take l.i l.out) ≡ replies l.initial.player.code.now l.initial.player.rows.now l.initial.player.names (map call_of (take l.i l.calls)) (state l.initial.player))
    × (state l.player ≡ after_calls l.initial.player.code.now l.initial.player.rows.now l.initial.player.names (map call_of (take l.i l.calls)) (state l.initial.player))
    × (drop l.i l.out ≡ drop l.i l.initial.out)
