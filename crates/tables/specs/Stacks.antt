-- A bounded stack as a list.
use Rattle.std.specs.Prelude.{◌≡◌, ℕ, min, true, false, List, length, take, Ok, Err, Result}
use Rattle.records.specs.declared.refusals.Refusal.{Refusal}
use Rattle.records.specs.declared.refusals.Refusal.TheVariants.{NoRoom}
use Rattle.meaning.specs.LowerState.{Pile, pushed, has_room}
use Rattle.tables.specs.declared.stack.Stack.{Stack}

-- The first n of a memory are held; there is room for the memory's length, and never for more than so many.
abbrev pub pile : {X : Type 0} → ℕ → ℕ → List X → Pile X
pile most n xs = record { held = take n xs; room = min most (length xs) }

-- What a stack holds, the oldest first.
abbrev pub contents : {X : Type 0} → (most : ℕ) → Stack X most → Pile X
contents most s = pile most s.len s.items.now

-- A stack still lies in the memory that was lent for it.
abbrev pub SameLent : {X : Type 0} → (most : ℕ) → Stack X most → Stack X most → Type 0
SameLent most a b = b.items.ghost_name ≡ a.items.ghost_name

-- One element more, or no room and all as it was.
abbrev pub Pushed : {X Y : Type 0} → Pile X → X → Result Y Refusal → Pile X → Type 0
Pushed p x (Ok _) q = (has_room p ≡ true) × (q ≡ pushed x p)
Pushed p x (Err e) q = (has_room p ≡ false) × (e ≡ NoRoom) × (q ≡ p)

-- What is refused leaves a stack as it was.
abbrev pub KeptIfErr : {X Y : Type 0} → (most : ℕ) → Stack X most → Result Y Refusal → Stack X most → Type 0
KeptIfErr most a (Ok _) b = Unit {0}
KeptIfErr most a (Err _) b = b ≡ a
