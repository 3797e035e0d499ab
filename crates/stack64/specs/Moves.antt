-- What the calls of a stack do to its list, the newest first.
use Rattle.std.specs.Prelude.{◌≡◌, ℕ, ◌<◌, ◌≤◌, List, [], ◌∷◌, ◌++◌, length, take, drop, Some, None, Option, Ok, Err, Result}
use Rattle.stack64.specs.declared.stack.NoPlace.{NoPlace}

-- One more, if there are not 64.
abbrev pub Pushed : {A : Type 0} → List A → A → Result (Unit {0}) NoPlace → List A → Type 0
Pushed xs x (Ok u) ys = (length xs < 64) × (ys ≡ x ∷ xs)
Pushed xs x (Err e) ys = (64 ≤ length xs) × (ys ≡ xs)

-- The newest is taken, if there is one.
abbrev pub Popped : {A : Type 0} → List A → Option A → List A → Type 0
Popped xs (Some x) ys = (xs ≡ x ∷ ys) × (length ys < 64)
Popped xs None ys = (xs ≡ []) × (ys ≡ xs)

abbrev pub rest : {A : Type 0} → List A → List A
rest [] = []
rest (x ∷ xs) = xs

-- The newest, if there is one.
abbrev pub Newest : {A : Type 0} → List A → Option A → Type 0
Newest xs (Some x) = xs ≡ x ∷ rest xs
Newest xs None = xs ≡ []

-- Another in the place of the newest, if there is one.
abbrev pub Replaced : {A : Type 0} → List A → A → Option A → List A → Type 0
Replaced xs x (Some y) ys = (xs ≡ y ∷ rest xs) × (ys ≡ x ∷ rest xs)
Replaced xs x None ys = (xs ≡ []) × (ys ≡ xs)

-- One more, below n others.
abbrev pub below : {A : Type 0} → ℕ → A → List A → List A
below n x xs = take n xs ++ (x ∷ drop n xs)

abbrev pub Inserted : {A : Type 0} → ℕ → List A → A → Result (Unit {0}) NoPlace → List A → Type 0
Inserted n xs x (Ok u) ys = (n ≤ length xs) × (length xs < 64) × (ys ≡ below n x xs)
Inserted n xs x (Err e) ys = (length xs < 64 → length xs < n) × (ys ≡ xs)
