use Rattle.std.proofs.Common.{◌≡◌, ◌-◌}
use Rattle.meaning.specs.Calls.{plays}
use Rattle.player.specs.declared.kinds.Mode.TheVariants.{Ready}
use Rattle.player.specs.Players.{Kept, mach}
use Rattle.player.proofs.machine.Player.play.Given as goal

abbrev pub invariant-loop-n : goal.invariant-loop-n
invariant-loop-n l =
    Kept l.initial.self l.self × (l.self.mode ≡ Ready)
    × (plays l.initial.self.code.now l.initial.self.rows.now (l.limit - l.n) l.n l.self.place (mach l.self)
    ≡ plays l.initial.self.code.now l.initial.self.rows.now l.limit 0 l.initial.self.place (mach l.initial.self))
