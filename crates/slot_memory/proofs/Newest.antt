-- The newest slot of a name: the last that has it.
use Rattle.std.proofs.Common.{◌≡◌, ◌≢◌, ℕ, zero, suc, ◌+◌, ◌<◌, ◌≤◌, cond, eqb, List, [], ◌∷◌, ◌++◌, length, get_or, take, Some, None, Option, sym, ap, ◌∙◌, inl, inr, add-zero, add-one, arith, eq-eqb, ne_eqb}
use Rattle.std.proofs.lemmas.Bool.{cases_lt}
use Rattle.std.proofs.lemmas.List.{take_more, take_all, length-take-le}
use Rattle.code.specs.declared.talk.Slot.{Slot}
use Rattle.meaning.specs.Machine.{newest_from, newest}

newest-push : (x i : ℕ) (o : Option ℕ) (xs : List Slot) (s : Slot) → newest_from x i o (xs ++ s ∷ []) ≡ cond (eqb s.name x) (Some (i + length xs)) (newest_from x i o xs)
newest-push x i o [] s = ap (λ k. cond (eqb s.name x) (Some k) o) (sym (add-zero i))
newest-push x i o (y ∷ xs) s =
    let e : (i + 1) + length xs ≡ i + suc (length xs) = omega arith in
    newest-push x (i + 1) (cond (eqb y.name x) (Some i) o) xs s ∙ ap (λ k. cond (eqb s.name x) (Some k) (newest_from x (i + 1) (cond (eqb y.name x) (Some i) o) xs)) e

newest-more : (x i : ℕ) (d : Slot) (xs : List Slot) → i < length xs → newest x (take (i + 1) xs) ≡ cond (eqb (get_or xs i d).name x) (Some i) (newest x (take i xs))
unfolding newest
newest-more x i d xs h =
    let l : i ≤ length xs = omega arith in
    let e : 0 + length (take i xs) ≡ i = omega (arith, length-take-le i xs l) in
    ap (newest_from x 0 None) (take_more xs i d h) ∙ newest-push x 0 None (take i xs) (get_or xs i d) ∙ ap (λ k. cond (eqb (get_or xs i d).name x) (Some k) (newest x (take i xs))) e

-- slots of other names past a place do not count
newest-past : (x i n : ℕ) (d : Slot) (xs : List Slot) → i ≤ n → n ≤ length xs → ((k : ℕ) → i ≤ k → k < n → (get_or xs k d).name ≢ x) → newest x (take n xs) ≡ newest x (take i xs)
newest-past x i zero d xs h l f = let z : 0 ≡ i = omega arith in ap (λ k. newest x (take k xs)) z
newest-past x i (suc n) d xs h l f =
    elim (cases_lt n i) [
      | inl g ↦ (let z : suc n ≡ i = omega arith in ap (λ k. newest x (take k xs)) z)
      | inr g ↦ ap (λ k. newest x (take k xs)) (sym (add-one n)) ∙ newest-more x n d xs (omega arith) ∙ ap (λ b. cond b (Some n) (newest x (take n xs))) (ne_eqb (get_or xs n d).name x (f n g (omega arith)))
          ∙ newest-past x i n d xs g (omega arith) (λ k p q. f k p (omega arith))
    ]

newest-all : (x : ℕ) (xs : List Slot) → newest x xs ≡ newest x (take (length xs) xs)
newest-all x xs = ap (newest x) (sym (take_all (length xs) xs (omega arith)))

pub newest-none : (x : ℕ) (d : Slot) (xs : List Slot) → ((k : ℕ) → k < length xs → (get_or xs k d).name ≢ x) → newest x xs ≡ None
unfolding newest
newest-none x d xs f = newest-all x xs ∙ newest-past x 0 (length xs) d xs (omega arith) (omega arith) (λ k p q. f k q)

pub newest-at : (x i : ℕ) (d : Slot) (xs : List Slot) → i < length xs → (get_or xs i d).name ≡ x → ((k : ℕ) → i < k → k < length xs → (get_or xs k d).name ≢ x) → newest x xs ≡ Some i
newest-at x i d xs h e f =
    newest-all x xs ∙ newest-past x (i + 1) (length xs) d xs (omega arith) (omega arith) (λ k p q. f k (omega arith) q) ∙ newest-more x i d xs h
    ∙ ap (λ b. cond b (Some i) (newest x (take i xs))) (eq-eqb (get_or xs i d).name x e)
