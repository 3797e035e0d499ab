use Rattle.std.proofs.Common.{refl, rules}
use Rattle.std.proofs.lemmas.List.{length-take-le}
use Rattle.player.specs.Players.{held}
use Rattle.player.proofs.Slots.{held_more}
use Rattle.player.proofs.machine.Player.declare_slot.Goals as goal

pub returns : goal.returns
unfolding held
returns c = (search (rules, length-take-le), record { same = search rules; values = refl; iters = refl; handlers = refl; slots = held_more _ _ _ (search rules) })
