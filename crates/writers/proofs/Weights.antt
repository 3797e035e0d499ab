-- What records add to a segment, and the scan that stops where they add too much.
use Rattle.std.proofs.Common.{◌≡◌, ℕ, zero, suc, ◌+◌, ◌*◌, ◌<◌, ◌≤◌, min, List, [], ◌∷◌, length, sum_by, get_or, take, drop, Some, None, Option, sym, refl, ap, ◌∙◌, inl, inr, arith, length-take, drop-cons}
use Rattle.std.proofs.lemmas.List.{take_all}
use Rattle.std.proofs.lemmas.List.Sums.{sum_by-cons, sum_by-take-le}
use Rattle.std.proofs.lemmas.Bool.{cases_lt}
use Rattle.records.specs.declared.kinds.Form.{Form}
use Rattle.records.specs.declared.kinds.Form.TheVariants.{Unit as UnitForm, True, Opaque, False, Name, AllOf, AnyOf}
use Rattle.records.specs.declared.types.Expr.{Expr}
use Rattle.records.specs.Meanings.{form_of}
use Rattle.records.specs.Tree.{Records, no_expr}
use Rattle.writers.specs.Sizes.{weight_of, weight, weigh, Capped}

abbrev each : Expr → ℕ
each e = weight_of (form_of e.form)

weight-least : (m : Option Form) → 2 ≤ weight_of m
weight-least None = omega arith
weight-least (Some UnitForm) = omega arith
weight-least (Some True) = omega arith
weight-least (Some Opaque) = omega arith
weight-least (Some False) = omega arith
weight-least (Some Name) = omega arith
weight-least (Some AllOf) = omega arith
weight-least (Some AnyOf) = omega arith

two_each : (xs : List Expr) → 2 * length xs ≤ sum_by each xs
two_each [] = omega arith
two_each (x ∷ xs) = omega (arith, sum_by-cons each x xs, two_each xs, weight-least (form_of x.form))

-- The records from a place on, as a part of the table.
pub weigh-part : (R : Records) (k a : ℕ) → a + k ≤ length R.exprs → weigh R k a ≡ sum_by each (take k (drop a R.exprs))
weigh-part R zero a h = refl
weigh-part R (suc k) a h = let h' : a < length R.exprs = omega arith in rw (drop-cons R.exprs a no_expr) (ap (λ (n : ℕ). weight R a + n) (weigh-part R k (suc a) (omega arith)) ∙ sym (sum_by-cons each (get_or R.exprs a no_expr) (take k (drop (suc a) R.exprs))))

-- The first 33 tell enough.
pub capped : (xs : List Expr) → Capped (sum_by each xs) (sum_by each (take (min (length xs) 33) xs))
capped xs =
    elim (cases_lt 33 (length xs)) [
      | inl long ↦
          let m : min (length xs) 33 ≡ 33 = omega arith in
          let front = two_each (take 33 xs) in
          let all = sum_by-take-le each xs 33 in
          let size : length (take 33 xs) ≡ 33 = length-take 33 xs ∙ omega arith in
          rw m (record { exact = λ h. omega arith; past = λ h. omega arith })
      | inr short ↦ rw (take_all (min (length xs) 33) xs (omega arith)) (record { exact = λ h. refl; past = λ h. h })
    ]
