-- The two writers of the base keep the writers' law.
use Rattle.std.proofs.Common.{◌≡◌, ℕ, zero, suc, ◌+◌, ◌<◌, ◌≤◌, Bool, true, false, cond, not, ◌&&◌, eqb, ltb, leb, List, [], ◌∷◌, ◌++◌, length, Some, None, Option, refl, arith, ltb-true, lt-ltb, le-leb, leb-true}
use Rattle.std.proofs.lemmas.Bool.{and_parts, and_from}
use Rattle.records.specs.Tree.{Records, expr_at, name_of}
use Rattle.records.specs.Accepts.{Sound}
use Rattle.code.specs.declared.ops.Op.TheVariants.{Bool as BoolOp, Jump}
use Rattle.code.specs.declared.ops.Instr.{Instr}
use Rattle.meaning.specs.Reading.{Bytes, Reading, Reading.unit, Reading.yes, Reading.opaque, Reading.no, Reading.name, Reading.all, Reading.any, Items, Items.end, Items.item}
use Rattle.meaning.specs.Fed.{Tables, number_of}
use Rattle.meaning.specs.Writer.{is_plain, all_plain, Lawful}
use Rattle.meaning.specs.Writers.{is_record, plain, whole, name_reading, form_reading, items_from, written_reading, size, size_items, load, written, written_items, writer}
use Rattle.meaning.proofs.Found.{number-found}
use Rattle.meaning.proofs.WritersPlay.{Fine, FineItems, jump_on, length-written, written-plays}

-- ## Segments use plain operations

module _ (T : Tables) (exprs len : ℕ) where
  abbrev AllPlain : List Instr → Type 0
  AllPlain xs = all_plain (length T.names) exprs len xs ≡ true

  plain-both : (xs ys : List Instr) → AllPlain xs → AllPlain ys → AllPlain (xs ++ ys)
  plain-both [] ys h k = k
  plain-both (x ∷ xs) ys h k =
      let p = and_parts (is_plain (length T.names) exprs len x.op) (all_plain (length T.names) exprs len xs) h in
      and_from (is_plain (length T.names) exprs len x.op) (all_plain (length T.names) exprs len (xs ++ ys)) p.0 (plain-both xs ys p.1 k)

  plain-jump : (on : Bool) (t : ℕ) → t ≤ len → is_plain (length T.names) exprs len (jump_on on t) ≡ true
  plain-jump true t h = le-leb t len h
  plain-jump false t h = le-leb t len h

  -- A list whose items are plain.
  plain-list : (xs : List Instr) (on : Bool) (t : ℕ) → t ≤ len → AllPlain xs → AllPlain (xs ++ (plain (BoolOp (not on)) ∷ plain (Jump t) ∷ plain (BoolOp on) ∷ []))
  plain-list xs on t h k = plain-both xs (plain (BoolOp (not on)) ∷ plain (Jump t) ∷ plain (BoolOp on) ∷ []) k (rw (le-leb t len h) refl)

  plain-load : (o : Option ℕ) (x : ℕ) → o ≡ Some x → x < length T.names → AllPlain (load o ∷ [])
  plain-load o x e h = rw (e, lt-ltb x (length T.names) h) refl

  plain-asks : (e : ℕ) → 0 < e → e < exprs → is_record exprs e && true ≡ true
  plain-asks e lo hi = rw (lt-ltb 0 e lo, lt-ltb e exprs hi) refl

  mutual
    plain-written : (r : Reading) (d : ℕ) → Fine T exprs r → d + size r ≤ len → AllPlain (written T r d)
    plain-written unit d z h = refl
    plain-written yes d z h = refl
    plain-written (opaque e) d z h = plain-asks e z.0 z.1
    plain-written no d z h = refl
    plain-written (name b) d z h = plain-load (number_of T b) z.0 z.1 (number-found T b z.0 z.1).0
    plain-written (all is) d z h =
        let t = suc (suc (size_items is + d)) in
        plain-list (written_items T is (jump_on false) t d) false (suc t) (omega arith) (plain-items is false t d z (omega arith) (omega arith))
    plain-written (any is) d z h =
        let t = suc (suc (size_items is + d)) in
        plain-list (written_items T is (jump_on true) t d) true (suc t) (omega arith) (plain-items is true t d z (omega arith) (omega arith))

    plain-items : (is : Items) (on : Bool) (t d : ℕ) → FineItems T exprs is → t ≤ len → d + size_items is ≤ len → AllPlain (written_items T is (jump_on on) t d)
    plain-items end on t d z k h = refl
    plain-items (item p r is) on t d z k h =
        plain-both (written T r d) (record { op = jump_on on t; at = p } ∷ written_items T is (jump_on on) t (suc (size r + d))) (plain-written r d z.0 (omega arith))
        (and_from (is_plain (length T.names) exprs len (jump_on on t)) (all_plain (length T.names) exprs len (written_items T is (jump_on on) t (suc (size r + d)))) (plain-jump on t k) (plain-items is on t (suc (size r + d)) z.1 k (omega arith)))

-- ## Readings of records are fine

-- The items of an expression record lie inside the table. Accepted records are so; in other records an item may be no
-- record, or record 0, and a segment that asks it breaks the law.
abbrev pub ItemsInside : Records → Type 0
ItemsInside R = (i : ℕ) → 1 ≤ i → i < length R.exprs → (1 ≤ (expr_at R i).end) × ((expr_at R i).end ≤ length R.exprs)

pub sound-items : (R : Records) → Sound R → ItemsInside R
sound-items R s i lo hi = let p = s.exprs i lo hi in (omega (arith, p.after), p.within)

module _ (T : Tables) (R : Records) where
  abbrev FineHere : Reading → Type 0
  FineHere r = Fine T (length R.exprs) r

  fine-name : (o : Option ℕ) (b : Bytes) (e : ℕ) → number_of T b ≡ o → FineHere (opaque e) → FineHere (name_reading o b e)
  fine-name None b e q h = h
  fine-name (Some x) b e q h = (x, q)

  fine-form : (e : ℕ) (is : Items) → 1 ≤ e → e < length R.exprs → FineItems T (length R.exprs) is → FineHere (form_reading T R e is)
  fine-form e is lo hi h =
      let f = (expr_at R e).form in
      go (name_reading (number_of T (name_of R (expr_at R e).label).bytes) (name_of R (expr_at R e).label).bytes e) (fine-name (number_of T (name_of R (expr_at R e).label).bytes) (name_of R (expr_at R e).label).bytes e refl (lo, hi))
      (eqb f 1) (eqb f 2) (eqb f 4) (eqb f 5) (eqb f 6) (eqb f 7)
    where
      go : (n : Reading) → FineHere n → (t u v w x y : Bool) → FineHere (cond t unit (cond u yes (cond v no (cond w n (cond x (all is) (cond y (any is) (opaque e)))))))
      go n k true u v w x y = tt
      go n k false true v w x y = tt
      go n k false false true w x y = tt
      go n k false false false true x y = k
      go n k false false false false true y = h
      go n k false false false false false true = h
      go n k false false false false false false = (lo, hi)

  fine-items : ItemsInside R → (k a b : ℕ) → 1 ≤ a → b ≤ length R.exprs → FineItems T (length R.exprs) (items_from T R k a b)
  unfolding items_from
  fine-items z zero a b lo hi = tt
  fine-items z (suc k) a b lo hi = go (ltb a b) (ltb-true a b) (fine-items z k)
    where
      go : (t : Bool) → (t ≡ true → a < b) → ((a b : ℕ) → 1 ≤ a → b ≤ length R.exprs → FineItems T (length R.exprs) (items_from T R k a b))
          → FineItems T (length R.exprs) (cond t (item (expr_at R a).at (form_reading T R a (items_from T R k (suc a) (expr_at R a).end)) (items_from T R k (expr_at R a).end b)) end)
      go true less rec =
          let l = less refl in
          let p = z a lo (omega arith) in
          (fine-form a (items_from T R k (suc a) (expr_at R a).end) lo (omega arith) (rec (suc a) (expr_at R a).end (omega arith) p.1), rec (expr_at R a).end b p.0 hi)
      go false less rec = tt

  fine-reading : ItemsInside R → (e : ℕ) → 1 ≤ e → e < length R.exprs → FineHere (written_reading T R e)
  unfolding written_reading
  fine-reading z e lo hi = fine-form e (items_from T R (length R.exprs) (suc e) (expr_at R e).end) lo hi (fine-items z (length R.exprs) (suc e) (expr_at R e).end (omega arith) (z e lo hi).1)

-- ## The law

record_is : (n e : ℕ) → is_record n e ≡ true → (0 < e) × (e < n)
record_is n e h = let p = and_parts (ltb 0 e) (ltb e n) h in (ltb-true 0 e p.0, ltb-true e n p.1)

-- Whole asks every expression.
pub whole-lawful : (T : Tables) (R : Records) → Lawful T (length R.exprs) (whole R)
whole-lawful T R = record {
  short = omega arith;
  low = omega arith;
  within = λ e k. omega arith;
  plain = λ e k. plain-written T (length R.exprs) 1 (opaque e) 0 (record_is (length R.exprs) e k) (omega arith);
  plays = λ e k. written-plays T (length R.exprs) (opaque e) (record_is (length R.exprs) e k);
}

-- Written follows the forms.
pub written-lawful : (T : Tables) (R : Records) → ItemsInside R → Lawful T (length R.exprs) (writer T R)
written-lawful T R z = record {
  short = omega arith;
  low = omega arith;
  within = λ e k. rw (length-written T (written_reading T R e) 0) (leb-true (size (written_reading T R e)) 64 (knows e k).1);
  plain = λ e k. let s = length-written T (written_reading T R e) 0 in plain-written T (length R.exprs) (length (written T (written_reading T R e) 0)) (written_reading T R e) 0 (fine e k) (omega arith);
  plays = λ e k. written-plays T (length R.exprs) (written_reading T R e) (fine e k);
}
  where
    knows : (e : ℕ) → (writer T R).known e ≡ true → (is_record (length R.exprs) e ≡ true) × (leb (size (written_reading T R e)) 64 ≡ true)
    knows e k = and_parts (is_record (length R.exprs) e) (leb (size (written_reading T R e)) 64) k

    fine : (e : ℕ) → (writer T R).known e ≡ true → Fine T (length R.exprs) (written_reading T R e)
    fine e k = let p = record_is (length R.exprs) e (knows e k).0 in fine-reading T R z e p.0 p.1
