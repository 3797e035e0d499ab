-- Tests that passed, and options that are none.
use Rattle.std.proofs.Common.{◌≡◌, ℕ, zero, suc, ◌+◌, ◌-◌, ◌<◌, ◌≤◌, List, length, drop, get_or, Bool, true, false, cond, refl, ap, ◌∙◌, subst, inl, inr, zero-add, arith}
use mathlib.Core.Option.{Option, none, some}
use Rattle.std.specs.List.{list_all, enumerate_from}
use Rattle.std.proofs.lemmas.List.FromFn.{length-enumerate_from, get_or-enumerate_from}
use Rattle.std.proofs.lemmas.Bool.{cases_eq, and_parts, and_from}
use Rattle.std.proofs.lemmas.Grind.{get_or_after_one}
use Rattle.std.proofs.lemmas.List.{drop_more, length-drop}
use Rattle.std.proofs.Math.ListN.{drop_of_length-le}
use Rattle.records.specs.Checks.{first, every, each_from1, each_fault}

pub none-some : {n : ℕ} → some n ≡ none → ⊥
none-some e = cc

pub first-none : {x y : Option ℕ} → first x y ≡ none → (x ≡ none) × (y ≡ none)
first-none {x = none} {y} e = (refl, e)
first-none {x = some n} {y} e = absurd (none-some e)

pub none_first : {x y : Option ℕ} → x ≡ none → y ≡ none → first x y ≡ none
none_first {x} {y} p q = rw (p, q) refl

pub every-all : (P : ℕ → Bool) (k i : ℕ) → every P k i ≡ true → (j : ℕ) → i ≤ j → j < i + k → P j ≡ true
unfolding every
every-all P zero i e j l u = absurd (omega arith)
every-all P (suc k) i e j l u = elim (cases_eq i j) [ inl q ↦ subst (λ (x : ℕ). P x ≡ true) q (and_parts _ _ e).0 | inr q ↦ every-all P k (i + 1) (and_parts _ _ e).1 j (omega arith) (omega arith) ]

pub all-every : (P : ℕ → Bool) (k i : ℕ) → ((j : ℕ) → i ≤ j → j < i + k → P j ≡ true) → every P k i ≡ true
unfolding every
all-every P zero i h = refl
all-every P (suc k) i h = and_from _ _ (h i (omega arith) (omega arith)) (all-every P k (i + 1) (λ j l u. h j (omega arith) (omega arith)))

pub each_all : (P : ℕ → Bool) (n : ℕ) → each_from1 P n ≡ none → (i : ℕ) → 1 ≤ i → i < n → P i ≡ true
each_all P n e i l u = every-all P (n - 1) 1 (go (every P (n - 1) 1) refl e) i l (omega arith)
  where
    go : (b : Bool) → every P (n - 1) 1 ≡ b → cond {A = Option ℕ} b none (some 11) ≡ none → every P (n - 1) 1 ≡ true
    go true q w = q
    go false q w = absurd (none-some w)

pub all-each : (P : ℕ → Bool) (n : ℕ) → ((i : ℕ) → 1 ≤ i → i < n → P i ≡ true) → each_from1 P n ≡ none
all-each P n h = rw (all-every P (n - 1) 1 (λ j l u. h j l (omega arith))) refl

-- ## The records from 1 on, each with its place

module _ {X : Type 0} (test : ℕ × X → Bool) (d : X) (xs : List X) where
  all-every-from : (k i : ℕ) → k ≡ length xs - i → list_all test (drop i (enumerate_from 0 xs)) ≡ every (λ j. test (j, get_or xs j d)) k i
  unfolding every
  all-every-from zero i e = rw (drop_of_length-le (enumerate_from 0 xs) {i = i} (omega (arith, length-enumerate_from 0 xs))) refl
  all-every-from (suc k) i e =
      let l : i < length (enumerate_from 0 xs) = omega (arith, length-enumerate_from 0 xs) in
      let at : get_or (enumerate_from 0 xs) i (0, d) ≡ (i, get_or xs i d) = get_or-enumerate_from 0 xs i (0, d) (omega arith) ∙ ap (λ (j : ℕ). (j, get_or xs i d)) (zero-add i) in
      rw (drop_more (enumerate_from 0 xs) i (0, d) l, at, all-every-from k (i + 1) (omega arith)) refl

  pub all-each-placed : each_fault test xs ≡ each_from1 (λ i. test (i, get_or xs i d)) (length xs)
  all-each-placed = rw (all-every-from (length xs - 1) 1 refl) refl

-- such a place lies inside the table
pub place-within : {X : Type 0} (xs : List X) (x : ℕ × X) (k : ℕ) → k < length (drop 1 (enumerate_from 0 xs)) → x ≡ get_or (drop 1 (enumerate_from 0 xs)) k x → x.0 < length xs
place-within xs x k l e =
    let m : length (drop 1 (enumerate_from 0 xs)) ≡ length xs - 1 = length-drop 1 (enumerate_from 0 xs) ∙ ap (λ (n : ℕ). n - 1) (length-enumerate_from 0 xs) in
    let n = ap (λ (p : ℕ × _). p.0) (e ∙ get_or_after_one (enumerate_from 0 xs) k x ∙ get_or-enumerate_from 0 xs (1 + k) x (omega arith)) in
    omega (arith, n)
