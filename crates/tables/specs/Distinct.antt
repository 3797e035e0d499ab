-- A table without repeats as a list.
use Rattle.std.specs.Prelude.{◌≡◌, ℕ, ◌<◌, cond, length, Some, None, Ok, Err, Option, Result}
use Rattle.records.specs.declared.refusals.Refusal.{Refusal}
use Rattle.records.specs.declared.refusals.Refusal.TheVariants.{NoRoom}
use Rattle.meaning.specs.LowerState.{Pile, pushed, has_room}

-- The place where an entry was found; or a new entry at the end; or no room, and all as it was.
abbrev pub EnteredAs : {X : Type 0} → Option ℕ → X → Pile X → Result ℕ Refusal → Pile X → Type 0
EnteredAs (Some i) x p r q = (r ≡ Ok i) × (q ≡ p)
EnteredAs None x p r q = cond (has_room p) ((r ≡ Ok (length p.held)) × (q ≡ pushed x p)) ((r ≡ Err NoRoom) × (q ≡ p))

-- A place is one of so many.
abbrev pub Below : Option ℕ → ℕ → Type 0
Below (Some i) n = i < n
Below None n = Unit {0}

abbrev pub PlaceBelow : Result ℕ Refusal → ℕ → Type 0
PlaceBelow (Ok i) n = i < n
PlaceBelow (Err e) n = Unit {0}
