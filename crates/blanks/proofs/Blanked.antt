-- Elements that are blank from a place on.
use Rattle.std.proofs.Common.{◌≡◌, ℕ, ◌+◌, ◌-◌, ◌<◌, ◌≤◌, ◌≢◌, List, ◌++◌, length, get_or, take, set, replicate, sym, refl, ◌∙◌, inl, inr, arith, get_or-set_other, get_or-set_same, below_more}
use Rattle.std.proofs.lemmas.List.{length-append, length-take-le, length-replicate, get_or_append_left, get_or-append_right, get_or-take, get_or-replicate, ext_get_or}
use Rattle.std.proofs.lemmas.Bool.{cases_lt}

-- ## A loop that blanks

pub blank_more : {X : Type 0} (xs : List X) (b : X) (i : ℕ) → i < length xs → ((k : ℕ) → k < i → get_or xs k b ≡ b) → (k : ℕ) → k < i + 1 → get_or (set xs i b) k b ≡ b
blank_more xs b i h below k l =
    below_more (λ j. get_or (set xs i b) j b ≡ b) i
    (λ j lt. let ne : j ≢ i = omega arith in rw get_or-set_other (below j lt))
    (rw get_or-set_same refl)
    k l

-- ## What is blank from a place on, as a list

pub blanked : {X : Type 0} (b : X) (xs ys : List X) (from : ℕ) → from ≤ length xs → length ys ≡ length xs
    → ((k : ℕ) → from ≤ k → k < length ys → get_or ys k b ≡ b) → ((k : ℕ) → k < from → get_or ys k b ≡ get_or xs k b)
    → ys ≡ take from xs ++ replicate (length xs - from) b
blanked b xs ys from within same past before =
    let front : length (take from xs) ≡ from = length-take-le from xs within in
    let back : length (replicate (length xs - from) b) ≡ length xs - from = length-replicate (length xs - from) b in
    ext_get_or b ys (take from xs ++ replicate (length xs - from) b) (omega (arith, length-append (take from xs) (replicate (length xs - from) b)))
    (λ k h. elim (cases_lt k from) [
      | inl l ↦ before k l ∙ sym (get_or_append_left (take from xs) (replicate (length xs - from) b) b k (omega arith) ∙ get_or-take from xs k b l)
      | inr l ↦ past k l h ∙ sym (get_or-append_right (take from xs) (replicate (length xs - from) b) from k b front l ∙ get_or-replicate (length xs - from) (k - from) b b (omega arith))
    ])
