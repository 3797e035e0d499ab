use Rattle.std.proofs.Common.{rules}
use Rattle.replay.proofs.Replays.{from-load}
use Rattle.replay.proofs.replay.Goals as goal

pub returns : goal.returns
returns c = record { count = search rules; said = from-load c.load-player.result c.args.code c.args.rows c.args.names _ _ _ c.load-player.ensures.holds.0 c.load-player.ensures.holds.1.0 c.load-player.ensures.holds.1.1 c.load-player.ensures.starts c.perform_all-count.ensures.said; rest = search rules; blank = search rules }
