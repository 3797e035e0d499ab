use Rattle.std.proofs.Common.{refl}
use Rattle.player.specs.Players.{held}
use Rattle.player.proofs.Plays.{fresh}
use Rattle.player.proofs.machine.Player.load.Goals as goal

pub returns : goal.returns
unfolding held
returns c = record { lent = refl; holds = (refl, (refl, refl)); starts = fresh _ _ _ _ c.new.ensures c.new-2.ensures c.new-3.ensures }
