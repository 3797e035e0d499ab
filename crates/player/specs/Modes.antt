-- What a mode says.
use Rattle.std.specs.Prelude.{ℕ}
use Rattle.player.specs.declared.kinds.Mode.{Mode}
use Rattle.player.specs.declared.kinds.Mode.TheVariants.{Ready, Waiting, Ended, Stuck}

-- 1 while a question waits.
abbrev pub due : Mode → ℕ
due Ready = 0
due (Waiting q u) = 1
due (Ended e) = 0
due Stuck = 0
