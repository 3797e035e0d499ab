-- What is found is there: the number of a name in the name table, and the newest slot of a name.
use Rattle.std.proofs.Common.{◌≡◌, ℕ, zero, suc, ◌+◌, ◌<◌, Bool, true, false, cond, eqb, ◌⊎◌, List, [], ◌∷◌, length, get_or, Some, None, Option, refl, subst, ap₂, inl, inr, arith, eqb-true}
use Rattle.std.proofs.lemmas.Bool.{and_parts}
use Rattle.code.specs.declared.talk.Slot.{Slot}
use Rattle.meaning.specs.Machine.{slot_at, newest_from, newest}
use Rattle.meaning.specs.Reading.{Bytes, same_bytes}
use Rattle.meaning.specs.Fed.{Tables, name_at, place_from, number_of}

-- ## Names

pub same_bytes_lem : (x y : Bytes) → same_bytes x y ≡ true → x ≡ y
same_bytes_lem [] [] e = refl
same_bytes_lem [] (y ∷ ys) e = absurd (let z : ◌≡◌ {A = ℕ} 0 1 = cc in omega arith)
same_bytes_lem (x ∷ xs) [] e = absurd (let z : ◌≡◌ {A = ℕ} 0 1 = cc in omega arith)
same_bytes_lem (x ∷ xs) (y ∷ ys) e = let h = and_parts (eqb x y) (same_bytes xs ys) e in ap₂ ◌∷◌ (eqb-true x y h.0) (same_bytes_lem xs ys h.1)

-- A place found in a list from place i on is k places further, and the name stands there.
place_found : (b : Bytes) (ns : List Bytes) (i x : ℕ) → place_from b i ns ≡ Some x → (k : ℕ) × (x ≡ i + k) × (k < length ns) × (get_or ns k [] ≡ b)
place_found b [] i x e = absurd (let z : ◌≡◌ {A = ℕ} 0 1 = cc in omega arith)
place_found b (n ∷ ns) i x e = go (same_bytes n b) (same_bytes_lem n b) e (place_found b ns (suc i) x)
  where
    go : (t : Bool) → (t ≡ true → n ≡ b) → cond t (Some i) (place_from b (suc i) ns) ≡ Some x
        → (place_from b (suc i) ns ≡ Some x → (k : ℕ) × (x ≡ suc i + k) × (k < length ns) × (get_or ns k [] ≡ b))
        → (k : ℕ) × (x ≡ i + k) × (k < length (n ∷ ns)) × (get_or (n ∷ ns) k [] ≡ b)
    go true same e more = let q : i ≡ x = cc in (0, omega arith, omega arith, same refl)
    go false same e more = let h = more e in (suc h.0, omega arith, omega arith, h.3)

-- The number of a name is a number of the table, and stands for that name.
pub number-found : (T : Tables) (b : Bytes) (x : ℕ) → number_of T b ≡ Some x → (x < length T.names) × (name_at T x ≡ b)
number-found T b x e =
    let h = place_found b T.names 0 x e in
    let q : h.0 ≡ x = omega arith in
    (omega arith, subst (λ (k : ℕ). get_or T.names k [] ≡ b) q h.3)

-- ## Slots

slot-there : (ss : List Slot) (i : ℕ) → i < length ss → (s : Slot) × (slot_at i ss ≡ Some s)
slot-there [] i h = absurd (omega arith)
slot-there (s ∷ ss) zero h = (s, refl)
slot-there (s ∷ ss) (suc i) h = slot-there ss i (omega arith)

newest-from : (x : ℕ) (ss : List Slot) (i : ℕ) (o : Option ℕ) (j : ℕ) → newest_from x i o ss ≡ Some j → (o ≡ Some j) ⊎ (j < i + length ss)
newest-from x [] i o j e = inl e
newest-from x (s ∷ ss) i o j e = go (eqb s.name x) (newest-from x ss (i + 1) (cond (eqb s.name x) (Some i) o) j e)
  where
    go : (t : Bool) → (cond t (Some i) o ≡ Some j) ⊎ (j < i + 1 + length ss) → (o ≡ Some j) ⊎ (j < i + suc (length ss))
    go true (inl q) = let p : i ≡ j = cc in inr (omega arith)
    go true (inr h) = inr (omega arith)
    go false (inl q) = inl q
    go false (inr h) = inr (omega arith)

-- The newest slot of a name is a slot.
pub newest-there : (x : ℕ) (ss : List Slot) (i : ℕ) → newest x ss ≡ Some i → (s : Slot) × (slot_at i ss ≡ Some s)
unfolding newest
newest-there x ss i e = slot-there ss i (go (newest-from x ss 0 None i e))
  where
    go : (◌≡◌ {A = Option ℕ} None (Some i)) ⊎ (i < 0 + length ss) → i < length ss
    go (inl q) = absurd (let z : ◌≡◌ {A = ℕ} 0 1 = cc in omega arith)
    go (inr h) = omega arith
