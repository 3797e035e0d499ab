-- What slot memory is tested for, and what it holds when it is given back.
use Rattle.std.specs.Prelude.{ℕ, false, Some, None, Ok, Err, Option, Result}
use Rattle.records.specs.declared.refusals.Refusal.{Refusal}
use Rattle.records.specs.Numbers.{number_of}
use Rattle.code.specs.declared.talk.Slot.{Slot}

-- The number of a refusal, if there is one.
abbrev pub refusal_of : Result (Unit {0}) Refusal → Option ℕ
refusal_of (Ok u) = None
refusal_of (Err e) = Some (number_of e)

-- A slot that holds nothing.
abbrev pub blank_slot : Slot
blank_slot = record { name = 0; handle = 0; constant = false }
