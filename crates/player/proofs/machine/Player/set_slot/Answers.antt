use Rattle.std.proofs.Common.{refl, rules}
use Rattle.player.specs.Players.{held}
use Rattle.player.proofs.Slots.{held-put}
use Rattle.player.proofs.machine.Player.set_slot.Goals as goal

pub returns : goal.returns
unfolding held
returns c = record { same = search rules; values = refl; iters = refl; handlers = refl; slots = held-put _ _ _ _ c.requires c.args.self.now.sound }
