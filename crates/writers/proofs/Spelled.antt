-- Names by their bytes, and their numbers.
use Rattle.std.proofs.Common.{◌≡◌, ℕ, zero, suc, ◌+◌, ◌<◌, Bool, true, false, List, [], ◌∷◌, length, Some, None, Option, Decides, refl, ap, ◌∙◌, arith}
use Rattle.std.specs.List.{AllWithin, HoldsAt}
use Rattle.std.specs.Option.{MatchOption}
use Rattle.std.proofs.lemmas.Slice.Eq.{compares_Decides}
use Rattle.std.proofs.lemmas.Bool.Decides.{same_from_decides}
use Rattle.records.specs.Tree.{Records, name_of}
use Rattle.meaning.specs.Reading.{Bytes, same_bytes}
use Rattle.meaning.specs.Fed.{place_from}
use Rattle.meaning.specs.Compiled.{spelled}

-- A test of equality is the test of bytes.
pub same_test : (xs ys : Bytes) (r : Bool) → Decides r (xs ≡ ys) → same_bytes xs ys ≡ r
same_test xs ys r d =
    same_from_decides (same_bytes xs ys) r (compares_Decides same_bytes (record { empty = refl; shorter = λ y ys. refl; longer = λ x xs. refl; heads = λ x y xs ys. refl }) xs ys) d

-- The first label with these bytes has their number.
module _ (R : Records) (b : Bytes) where
  abbrev pub Same : Bool → ℕ → Type 0
  Same r l = same_bytes (name_of R l).bytes b ≡ r

  abbrev counted : ℕ → Option ℕ → Option ℕ
  counted n None = None
  counted n (Some i) = Some (n + i)

  numbered : (ls : List ℕ) (r : Option ℕ) → MatchOption r (AllWithin (Same false) ls 0 (length ls)) (λ i. (i < length ls) × HoldsAt (Same true) ls i × AllWithin (Same false) ls 0 i)
      → (n : ℕ) → counted n r ≡ place_from b n (spelled R ls)
  numbered [] None h n = refl
  numbered [] (Some i) h n = absurd (omega (arith, h.0))
  numbered (l ∷ ls) None h n =
      let here : Same false l = h 0 0 (omega arith) (omega arith) in
      rw here (numbered ls None (λ k d lo hi. h (suc k) d (omega arith) (omega arith)) (suc n))
  numbered (l ∷ ls) (Some zero) h n =
      let here : Same true l = h.1 0 in
      let z : n + 0 ≡ n = omega arith in
      rw (here, z) refl
  numbered (l ∷ ls) (Some (suc i)) h n =
      let here : Same false l = h.2 0 0 (omega arith) (omega arith) in
      let z : n + suc i ≡ suc n + i = omega arith in
      rw (here, z) (numbered ls (Some i) (omega (arith, h.0), λ d. h.1 d, λ k d lo hi. h.2 (suc k) d (omega arith) (omega arith)) (suc n))

  pub number-is : (ls : List ℕ) (r : Option ℕ) → MatchOption r (AllWithin (Same false) ls 0 (length ls)) (λ i. (i < length ls) × HoldsAt (Same true) ls i × AllWithin (Same false) ls 0 i)
      → r ≡ place_from b 0 (spelled R ls)
  number-is ls None h = numbered ls None h 0
  number-is ls (Some i) h = let z : i ≡ 0 + i = omega arith in ap Some z ∙ numbered ls (Some i) h 0
