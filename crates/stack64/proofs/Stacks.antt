-- How a stack's list changes with its height and its cells.
use Rattle.std.proofs.Common.{◌≡◌, ℕ, zero, suc, ◌+◌, ◌-◌, ◌<◌, ◌≤◌, min, List, [], ◌∷◌, ◌++◌, reverse, length, get_or, take, drop, set, Some, slice_get, sym, refl, ap, ◌∙◌, subst, inl, inr, arith, add-one, length-drop}
use mathlib.Core.List.{reverse-append}
use Rattle.std.proofs.lemmas.Bool.{cases_lt}
use Rattle.std.proofs.lemmas.Option.{slice_get-get_or}
use Rattle.std.proofs.lemmas.List.{take_more, take_more_set, length-reverse, length-take-le, take-take, take-append-drop, take_at, drop_at, take-append-le, drop-append-le, length-append, append_assoc, reverse-reverse, get_or-take}
use Rattle.std.specs.List.{between}
use borrow.Rule.Slice.PartMut.{put_mid}
use Rattle.std.proofs.lemmas.Slice.{between_is, take-put_mid}
use Rattle.stack64.specs.Listed.{stack}
use Rattle.stack64.specs.Moves.{Newest, rest, below}

module _ {A : Type 0} where
  pub stack-none : (xs : List A) → stack 0 xs ≡ []
  unfolding stack
  stack-none xs = refl

  turn : (xs : List A) (y : A) → reverse (xs ++ y ∷ []) ≡ y ∷ reverse xs
  turn xs y = reverse-append xs (y ∷ [])

  pub stack_push : (xs : List A) (i : ℕ) (y : A) → i < length xs → stack (i + 1) (set xs i y) ≡ y ∷ stack i xs
  unfolding stack
  stack_push xs i y h = ap reverse (take_more_set xs i y h) ∙ turn (take i xs) y

  stack-more : (xs : List A) (i : ℕ) (d : A) → i < length xs → stack (i + 1) xs ≡ get_or xs i d ∷ stack i xs
  unfolding stack
  stack-more xs i d h = ap reverse (take_more xs i d h) ∙ turn (take i xs) (get_or xs i d)

  pub length-stack : (xs : List A) (n : ℕ) → n ≤ length xs → length (stack n xs) ≡ n
  unfolding stack
  length-stack xs n h = length-reverse (take n xs) ∙ length-take-le n xs h

  -- of the oldest n the last is the newest
  pub newest-last : (xs : List A) (n : ℕ) → n ≤ length xs → Newest (stack n xs) (slice_get (take n xs) (length (take n xs) - 1))
  newest-last xs zero h = stack-none xs
  newest-last [] (suc n) h = absurd (omega arith)
  newest-last (x ∷ xs) (suc n) h =
      let ys : List A = x ∷ xs in
      let m : suc n ≡ n + 1 = omega arith in
      let l : length (take (suc n) ys) ≡ suc n = length-take-le (suc n) ys h in
      let top : length (take (suc n) ys) - 1 ≡ n = omega (arith, l) in
      let e : stack (suc n) ys ≡ get_or ys n x ∷ stack n ys = ap (λ k. stack k ys) m ∙ stack-more ys n x (omega arith) in
      let s : slice_get (take (suc n) ys) n ≡ Some (get_or ys n x) = slice_get-get_or (take (suc n) ys) n x (omega (arith, l)) ∙ ap Some (get_or-take (suc n) ys n x (omega arith)) in
      subst (Newest (stack (suc n) ys)) (sym (ap (slice_get (take (suc n) ys)) top ∙ s)) (e ∙ ap (λ r. get_or ys n x ∷ r) (sym (ap rest e)))

  -- where there is a newest, there is a place for it
  pub there : (xs ys : List A) (n : ℕ) (x : A) → n ≤ length xs → stack n xs ≡ x ∷ ys → 0 < n
  there xs ys zero x h e = let z : [] ≡ x ∷ ys = sym (stack-none xs) ∙ e in cc
  there xs ys (suc n) x h e = omega arith

  -- the newest is taken
  pub taken : (xs : List A) (n : ℕ) (x : A) → n ≤ length xs → stack n xs ≡ x ∷ rest (stack n xs) → stack n xs ≡ x ∷ stack (n - 1) xs
  taken xs n x h e =
      let p : 0 < n = there xs _ n x h e in
      let m : n ≡ (n - 1) + 1 = omega arith in
      let f : stack n xs ≡ get_or xs (n - 1) x ∷ stack (n - 1) xs = ap (λ k. stack k xs) m ∙ stack-more xs (n - 1) x (omega arith) in
      e ∙ ap (λ r. x ∷ r) (ap rest f)

  -- another is put in the place of the newest
  pub replaced : (xs : List A) (n : ℕ) (x y : A) → n ≤ length xs → stack n xs ≡ y ∷ rest (stack n xs) → stack n (set xs (n - 1) x) ≡ x ∷ rest (stack n xs)
  replaced xs n x y h e =
      let p : 0 < n = there xs _ n y h e in
      let m : n ≡ (n - 1) + 1 = omega arith in
      ap (λ k. stack k (set xs (n - 1) x)) m ∙ stack_push xs (n - 1) x (omega arith) ∙ ap (λ r. x ∷ r) (sym (ap rest (taken xs n y h e)))

  -- the oldest m
  stack-cut : (xs : List A) (m n : ℕ) → m ≤ n → n ≤ length xs → stack m xs ≡ drop (length (stack n xs) - m) (stack n xs)
  unfolding stack
  stack-cut xs m n h k =
      let ys : List A = take n xs in
      let e : reverse ys ≡ reverse (drop m ys) ++ reverse (take m ys) = ap reverse (sym (take-append-drop m ys)) ∙ reverse-append (take m ys) (drop m ys) in
      let lr : length (reverse (drop m ys)) ≡ length (reverse ys) - m = length-reverse (drop m ys) ∙ length-drop m ys ∙ ap (λ v. v - m) (sym (length-reverse ys)) in
      sym (ap (λ v. drop (length (reverse ys) - m) v) e ∙ drop_at (reverse (drop m ys)) (reverse (take m ys)) (length (reverse ys) - m) lr ∙ ap reverse (take-take m n xs h))

  pub stack-min : (xs : List A) (m n : ℕ) → n ≤ length xs → stack (min n m) xs ≡ drop (length (stack n xs) - m) (stack n xs)
  stack-min xs m n k =
      elim (cases_lt m n) [
        | inl l ↦ ap (λ j. stack j xs) (omega arith) ∙ stack-cut xs m n (omega arith) k
        | inr l ↦ (let z : length (stack n xs) - m ≡ 0 = omega (arith, length-stack xs n k) in ap (λ j. stack j xs) (omega arith) ∙ sym (ap (λ j. drop j (stack n xs)) z))
      ]

  -- of one more than the oldest, the last so many turned by one
  pub turned : (ws zs L : List A) (x : A) (n i : ℕ) → ws ≡ L ++ x ∷ [] → i + n ≡ length L → zs ≡ take i ws ++ (drop n (drop i ws) ++ take n (drop i ws)) → reverse zs ≡ below n x (reverse L)
  turned ws zs L x n i e h f =
      let l : length (reverse (drop i L)) ≡ n = omega (arith, length-reverse (drop i L), length-drop i L) in
      let t : take i ws ≡ take i L = ap (take i) e ∙ take-append-le i L (x ∷ []) (omega arith) in
      let d : drop i ws ≡ drop i L ++ x ∷ [] = ap (drop i) e ∙ drop-append-le i L (x ∷ []) (omega arith) in
      let k : length (drop i L) ≡ n = omega (arith, length-drop i L) in
      let u : zs ≡ take i L ++ (x ∷ drop i L) = f ∙ ap (λ v. v ++ (drop n (drop i ws) ++ take n (drop i ws))) t ∙ ap (λ v. take i L ++ (drop n v ++ take n v)) d ∙ ap (λ v. take i L ++ (v ++ take n (drop i L ++ x ∷ []))) (drop_at (drop i L) (x ∷ []) n k) ∙ ap (λ v. take i L ++ (x ∷ v)) (take_at (drop i L) (x ∷ []) n k) in
      let r : reverse L ≡ reverse (drop i L) ++ reverse (take i L) = ap reverse (sym (take-append-drop i L)) ∙ reverse-append (take i L) (drop i L) in
      ap reverse u ∙ reverse-append (take i L) (x ∷ drop i L) ∙ ap (λ v. v ++ reverse (take i L)) (reverse-append (x ∷ []) (drop i L)) ∙ append_assoc (reverse (drop i L)) (x ∷ []) (reverse (take i L))
      ∙ sym (ap (below n x) r ∙ ap (λ v. v ++ (x ∷ drop n (reverse (drop i L) ++ reverse (take i L)))) (take_at (reverse (drop i L)) (reverse (take i L)) n l) ∙ ap (λ v. reverse (drop i L) ++ (x ∷ v)) (drop_at (reverse (drop i L)) (reverse (take i L)) n l))

  -- a stack of one more is one higher
  pub higher : (xs ys : List A) (x : A) (h k : ℕ) → h ≤ length xs → k ≤ length ys → stack k ys ≡ x ∷ stack h xs → k ≡ h + 1
  higher xs ys x h k p q e = sym (length-stack ys k q) ∙ ap length e ∙ ap suc (length-stack xs h p) ∙ sym (add-one h)

  -- an element was pushed, and the newest n + 1 are turned by one
  pub sunk : (xs ys vs : List A) (x : A) (h k n : ℕ) → h ≤ length xs → k ≤ length ys → n ≤ h → stack k ys ≡ x ∷ stack h xs
      → (let part = between (h - n) k ys in vs ≡ drop (length part - 1) part ++ take (length part - 1) part)
      → stack k (put_mid (h - n) (k - (h - n)) ys vs) ≡ below n x (stack h xs)
  unfolding stack
  sunk xs ys vs x h k n p q r e f =
      let i : ℕ = h - n in
      let ws : List A = take k ys in
      let L : List A = take h xs in
      let m : k ≡ h + 1 = higher xs ys x h k p q e in
      let w : ws ≡ L ++ x ∷ [] = sym (reverse-reverse ws) ∙ ap reverse e ∙ reverse-append (x ∷ []) (reverse L) ∙ ap (λ v. v ++ x ∷ []) (reverse-reverse L) in
      let part : between i k ys ≡ drop i ws = between_is ys i k in
      let lp : length (drop i ws) ≡ suc n = omega (arith, length-drop i ws, length-take-le k ys q) in
      let o : length (between i k ys) - 1 ≡ n = omega (arith, ap length part) in
      let g : vs ≡ drop n (drop i ws) ++ take n (drop i ws) = f ∙ ap (λ j. drop j (between i k ys) ++ take j (between i k ys)) o ∙ ap (λ v. drop n v ++ take n v) part in
      let lv : length vs ≡ suc n = ap length g ∙ (omega (arith, length-append (drop n (drop i ws)) (take n (drop i ws)), length-drop n (drop i ws), length-take-le n (drop i ws))) in
      let t : take k (put_mid i (k - i) ys vs) ≡ take i ws ++ vs = take-put_mid i (k - i) ys vs k (omega arith) (omega arith) ∙ ap (λ v. v ++ vs) (sym (take-take i k ys (omega arith))) in
      turned ws (take k (put_mid i (k - i) ys vs)) L x n i w (omega (arith, length-take-le h xs p)) (t ∙ ap (λ v. take i ws ++ v) g)
