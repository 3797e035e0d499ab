-- How a number's reading goes on, digit by digit.
use Rattle.std.proofs.Common.{◌≡◌, ℕ, ◌+◌, ◌-◌, ◌*◌, ◌<◌, ◌≤◌, Bool, false, true, ◌&&◌, leb, List, [], ◌∷◌, length, get_or, drop, None, refl, arith}
use borrow.Author.Tests.{lt-leb}
use Rattle.std.proofs.lemmas.List.{drop_more}
use Rattle.words.specs.Numbers.{value_from, number_from}

and-false : (b : Bool) → (b && false) ≡ false
and-false true = refl
and-false false = refl

value_grows : (n : ℕ) (w : List ℕ) → n ≤ value_from n w
value_grows n [] = omega arith
value_grows n (c ∷ cs) = omega (arith, value_grows (n * 10 + (c - 48)) cs)

-- What is too large after one more digit stays so.
pub read_past : (most n i : ℕ) (w : List ℕ) → i < length w → most < n * 10 + (get_or w i 0 - 48) → number_from most n (drop i w) ≡ None
read_past most n i w h past =
    let next = n * 10 + (get_or w i 0 - 48) in
    let large : leb (value_from next (drop (i + 1) w)) most ≡ false = lt-leb (value_from next (drop (i + 1) w)) most (omega (arith, value_grows next (drop (i + 1) w))) in
    rw (drop_more w i 0 h) (rw large (rw and-false refl))
