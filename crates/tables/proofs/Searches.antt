-- Searches through a list, forward and from its end, by the places of what they find.
use Rattle.std.proofs.Common.{◌≡◌, ℕ, zero, suc, ◌+◌, ◌<◌, Bool, true, false, cond, List, [], ◌∷◌, length, get_or, Some, None, Option, MatchOption, sym, refl, ap, ◌∙◌, arith}
use Rattle.meaning.specs.LowerState.{first_same, newest_same}

module _ {X : Type 0} (same : X → X → Bool) (x : X) where
  -- an entry at a place is the same as x, or is another
  abbrev pub Hit : List X → ℕ → Type 0
  Hit xs k = (d : X) → same (get_or xs k d) x ≡ true

  abbrev pub Miss : List X → ℕ → Type 0
  Miss xs k = (d : X) → same (get_or xs k d) x ≡ false

  none-first : (xs : List X) (j : ℕ) → ((k : ℕ) → k < length xs → Miss xs k) → first_same same x j xs ≡ None
  none-first [] j h = refl
  none-first (y ∷ ys) j h = rw (h 0 (omega arith) y) (none-first ys (suc j) (λ k l. h (suc k) (omega arith)))

  some-first : (xs : List X) (j i : ℕ) → i < length xs → Hit xs i → ((k : ℕ) → k < i → Miss xs k) → first_same same x j xs ≡ Some (j + i)
  some-first [] j i l h m = absurd (omega arith)
  some-first (y ∷ ys) j zero l h m = let e : j ≡ j + 0 = omega arith in rw (h y) (ap Some e)
  some-first (y ∷ ys) j (suc i) l h m =
      let e : suc j + i ≡ j + suc i = omega arith in
      rw (m 0 (omega arith) y) (some-first ys (suc j) i (omega arith) h (λ k p. m (suc k) (omega arith)) ∙ ap Some e)

  -- the first
  pub first-is : (xs : List X) (r : Option ℕ) → MatchOption r ((k : ℕ) → k < length xs → Miss xs k) (λ i. (i < length xs) × (Hit xs i × ((k : ℕ) → k < i → Miss xs k))) → r ≡ first_same same x 0 xs
  first-is xs None h = sym (none-first xs 0 h)
  first-is xs (Some i) h = let e : i ≡ 0 + i = omega arith in ap Some e ∙ sym (some-first xs 0 i h.0 h.1.0 h.1.1)

  none-newest : (xs : List X) (j : ℕ) (o : Option ℕ) → ((k : ℕ) → k < length xs → Miss xs k) → newest_same same x j o xs ≡ o
  none-newest [] j o h = refl
  none-newest (y ∷ ys) j o h = rw (h 0 (omega arith) y) (none-newest ys (suc j) o (λ k l. h (suc k) (omega arith)))

  some-newest : (xs : List X) (j i : ℕ) (o : Option ℕ) → i < length xs → Hit xs i → ((k : ℕ) → i < k → k < length xs → Miss xs k) → newest_same same x j o xs ≡ Some (j + i)
  some-newest [] j i o l h m = absurd (omega arith)
  some-newest (y ∷ ys) j zero o l h m =
      let e : j ≡ j + 0 = omega arith in
      rw (h y) (none-newest ys (suc j) (Some j) (λ k p. m (suc k) (omega arith) (omega arith)) ∙ ap Some e)
  some-newest (y ∷ ys) j (suc i) o l h m =
      let e : suc j + i ≡ j + suc i = omega arith in
      some-newest ys (suc j) i (cond (same y x) (Some j) o) (omega arith) h (λ k p q. m (suc k) (omega arith) (omega arith)) ∙ ap Some e

  -- the newest
  pub newest-is : (xs : List X) (r : Option ℕ) → MatchOption r ((k : ℕ) → k < length xs → Miss xs k) (λ i. (i < length xs) × (Hit xs i × ((k : ℕ) → i < k → k < length xs → Miss xs k))) → r ≡ newest_same same x 0 None xs
  newest-is xs None h = sym (none-newest xs 0 None h)
  newest-is xs (Some i) h = let e : i ≡ 0 + i = omega arith in ap Some e ∙ sym (some-newest xs 0 i None h.0 h.1.0 h.1.1)
