-- How the reading of hexadecimal pairs goes on, pair by pair.
use Rattle.std.proofs.Common.{◌≡◌, ℕ, ◌-◌, ◌≤◌, List, [], ◌∷◌, ◌++◌, length, get_or, take, drop, Some, arith}
use Rattle.std.proofs.lemmas.List.{take_rest}
use Rattle.words.specs.Hex.{hex_digit, pair_of, spelt}

pub spelt_more : (bs w : List ℕ) (x : ℕ) → 2 ≤ length w → pair_of (hex_digit (get_or w 0 0)) (hex_digit (get_or w 1 0)) ≡ Some x → spelt bs w ≡ spelt (bs ++ x ∷ []) (take (length w - 2) (drop 2 w))
spelt_more bs [] x h e = absurd (omega arith)
spelt_more bs (a ∷ []) x h e = absurd (omega arith)
spelt_more bs (a ∷ (b ∷ cs)) x h e = rw (take_rest (a ∷ (b ∷ cs)) 2, e)
