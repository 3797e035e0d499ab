-- Byte by byte through a name.
use Rattle.std.proofs.Common.{◌≡◌, ℕ, ◌+◌, ◌/◌, ◌%◌, ◌<◌, ◌≤◌, List, [], ◌∷◌, ◌++◌, length, get_or, drop, refl}
use Rattle.std.proofs.lemmas.List.{drop_more, drop_all}
use Rattle.intake.specs.Texts.{hex_digit_of, hexed}

pub hexed-more : (xs out : List ℕ) (i : ℕ) → i < length xs → hexed (drop i xs) out ≡ hexed (drop (i + 1) xs) ((out ++ hex_digit_of (get_or xs i 0 / 16) ∷ []) ++ hex_digit_of (get_or xs i 0 % 16) ∷ [])
hexed-more xs out i h = rw (drop_more xs i 0 h) refl

pub hexed-end : (xs out : List ℕ) (i : ℕ) → length xs ≤ i → hexed (drop i xs) out ≡ out
hexed-end xs out i h = rw (drop_all i xs h) refl
