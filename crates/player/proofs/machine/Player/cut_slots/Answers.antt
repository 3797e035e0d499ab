use Rattle.std.proofs.Common.{refl, rules}
use Rattle.player.specs.Players.{held}
use Rattle.player.proofs.Slots.{held_cut}
use Rattle.player.proofs.machine.Player.cut_slots.Goals as goal

pub returns : goal.returns
unfolding held
returns c = record { same = search rules; values = refl; iters = refl; handlers = refl; slots = held_cut _ _ _ c.requires c.args.self.now.sound }
