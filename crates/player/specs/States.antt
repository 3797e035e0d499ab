-- A player's state: of one that has ended or is stuck, nothing else is told.
use Rattle.std.specs.Prelude.{◌≡◌, ℕ}
use Rattle.std.specs.Borrow.{MutBor}
use Rattle.meaning.specs.Machine.{Mach}
use Rattle.meaning.specs.Calls.{State, State.ready, State.waits, State.ended, State.halted}
use Rattle.player.specs.declared.kinds.Mode.{Mode}
use Rattle.player.specs.declared.kinds.Mode.TheVariants.{Ready, Waiting, Ended, Stuck}
use Rattle.player.specs.declared.machine.Player.{Player}
use Rattle.player.specs.Players.{mach}

abbrev pub state_of : Mode → ℕ → Mach → State
state_of Ready i m = ready i m
state_of (Waiting q u) i m = waits q u i m
state_of (Ended e) i m = ended e
state_of Stuck i m = halted

abbrev pub state : Player → State
state p = state_of p.mode p.place (mach p)

-- Two references to one place.
abbrev pub Tied : {A : Type 0} → MutBor A → MutBor A → Type 0
Tied x y = x.ghost_name ≡ y.ghost_name
