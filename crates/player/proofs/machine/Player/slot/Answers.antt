use Rattle.std.proofs.Common.{List, take, sym, subst}
use Rattle.code.specs.declared.talk.Slot.{Slot}
use Rattle.player.specs.Players.{Got, held}
use Rattle.player.proofs.Slots.{slot_read}
use Rattle.player.proofs.machine.Player.slot.Goals as goal

pub returns : goal.returns
unfolding held
returns c =
    let ss : List Slot = take c.args.self.now.live c.args.self.now.slots.now in
    subst (Got c.args.i ss) (sym c.copied.ensures) (slot_read ss c.args.i _ c.get.ensures.lookup.1 c.get.ensures.lookup.3)
