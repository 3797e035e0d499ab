-- Expressions: their checks pass exactly where their trees stand.
use Rattle.std.proofs.Common.{◌≡◌, ℕ, zero, suc, ◌+◌, ◌-◌, ◌<◌, ◌≤◌, max, Bool, true, false, not, ◌&&◌, ◌||◌, eqb, ltb, leb, ◌⊎◌, length, Some, None, Option as Maybe, sym, refl, subst, inl, inr, arith, ltb-true, lt-ltb, eq-eqb, ne_eqb, eqb-true, le-leb, leb-true}
use mathlib.Core.Option.{none}
use borrow.Author.Tests.{both_ways}
use Rattle.std.proofs.lemmas.Bool.{cases_eq, and_parts, and_from, or_cases}
use Rattle.records.specs.declared.kinds.Form.{Form}
use Rattle.records.specs.declared.kinds.Form.TheVariants.{Unit as UnitForm, True, Opaque, False, Name, AllOf, AnyOf}
use Rattle.records.specs.declared.types.Expr.{Expr}
use Rattle.records.specs.Tree.{Records, Tree, Forest, Tree.node, Forest.nil, Forest.more, expr_at}
use Rattle.records.specs.Meanings.{form_of, known, is_list}
use Rattle.records.specs.Preorder.{TreeAt, ForestAt}
use Rattle.records.specs.Checks.{names, tiles, form_law, expr_law, expr_sound, expr_fault}
use Rattle.records.specs.Accepts.{Term, term_of, expressions}
use Rattle.records.proofs.Bools.{each_all, all-each}
use Rattle.records.proofs.Forests.{tree-lt, forest-le, tree-end, Below, each_f}

-- A form's own law says where its record ends.
pub form-end : (f : Form) (R : Records) (e : Expr) (i : ℕ) → form_law f R e i ≡ true → ((is_list f ≡ true) × (i + 1 < e.end)) ⊎ ((is_list f ≡ false) × (e.end ≡ i + 1))
form-end UnitForm R e i h = inr (refl, eqb-true _ _ h)
form-end True R e i h = inr (refl, eqb-true _ _ h)
form-end Opaque R e i h = inr (refl, eqb-true _ _ h)
form-end False R e i h = inr (refl, eqb-true _ _ h)
form-end Name R e i h = inr (refl, eqb-true _ _ (and_parts (names (length R.labels) e.label) _ h).1)
form-end AllOf R e i h = inl (refl, ltb-true _ _ h)
form-end AnyOf R e i h = inl (refl, ltb-true _ _ h)

module _ (R : Records) where
  -- What a sound expression has.
  pub record Fine (i : ℕ) : Type 0 where
    pub law : expr_law R i ≡ true
    pub after : i < (expr_at R i).end
    pub within : (expr_at R i).end ≤ length R.exprs
    pub items : tiles R ((expr_at R i).end - (i + 1)) (i + 1) (expr_at R i).end ≡ true

  tiles-none : (k a b : ℕ) → a ≡ b → tiles R k a b ≡ true
  unfolding tiles
  tiles-none zero a b e = eq-eqb a b e
  tiles-none (suc k) a b e = rw (eq-eqb a b e) refl

  abbrev is_known : Maybe Form → ℕ → Bool
  is_known m i =
      known m (λ f. form_law f R (expr_at R i) i
      && (not (is_list f) || (leb (expr_at R i).end (length R.exprs) && tiles R ((expr_at R i).end - (i + 1)) (i + 1) (expr_at R i).end)))

  pub sound-fine : (i : ℕ) → i < length R.exprs → expr_sound R i ≡ true → Fine i
  sound-fine i u h = go (form_of (expr_at R i).form) refl h
    where
      listed : {b : Bool} (c : Bool) → c ≡ true → (not c || b) ≡ true → b ≡ true
      listed true e h = h
      listed false e h = absurd (both_ways false refl e)

      go : (m : Maybe Form) → form_of (expr_at R i).form ≡ m → is_known m i ≡ true → Fine i
      go None q w = absurd (both_ways false refl w)
      go (Some f) q w =
          let p = and_parts (form_law f R (expr_at R i) i) _ w in
          let l = subst (λ (m : Maybe Form). known m (λ f. form_law f R (expr_at R i) i) ≡ true) (sym q) p.0 in
          elim (form-end f R (expr_at R i) i p.0) [
            | inl x ↦
                let y = and_parts (leb (expr_at R i).end (length R.exprs)) _ (listed (is_list f) x.0 p.1) in
                let z = x.1 in
                record { law = l; after = omega arith; within = leb-true _ _ y.0; items = y.1 }
            | inr x ↦
                let z = x.1 in
                record { law = l; after = omega arith; within = omega arith; items = tiles-none _ _ _ (sym z) }
          ]

  fine-sound : (i : ℕ) → Fine i → expr_sound R i ≡ true
  fine-sound i x = go (form_of (expr_at R i).form) x.law
    where
      listed : {b : Bool} (c : Bool) → b ≡ true → (not c || b) ≡ true
      listed true h = h
      listed false h = refl

      go : (m : Maybe Form) → known m (λ f. form_law f R (expr_at R i) i) ≡ true → is_known m i ≡ true
      go None w = absurd (both_ways false refl w)
      go (Some f) w = and_from _ _ w (listed (is_list f) (and_from _ _ (le-leb _ _ x.within) x.items))

  -- ## From the checks to trees

  pub record Hop (a b : ℕ) : Type 0 where
    pub steps : ℕ
    pub after : a < (expr_at R a).end
    pub within : (expr_at R a).end ≤ b
    pub on : tiles R steps (expr_at R a).end b ≡ true

  pub hop : (k a b : ℕ) → tiles R k a b ≡ true → (a ≡ b) ⊎ Hop a b
  unfolding tiles
  hop zero a b h = inl (eqb-true a b h)
  hop (suc k) a b h =
      elim (or_cases (eqb a b) _ h) [
        | inl e ↦ inl (eqb-true a b e)
        | inr e ↦
            let p = and_parts (ltb a (expr_at R a).end) _ e in
            let q = and_parts (leb (expr_at R a).end b) _ p.1 in
            inr (record { steps = k; after = ltb-true _ _ p.0; within = leb-true _ _ q.0; on = q.1 })
      ]

  record Span (a b : ℕ) : Type 0 where
    forest : Forest Term
    stands : ForestAt (expressions R) forest a b

  spanned : ((i : ℕ) → 1 ≤ i → i < length R.exprs → Fine i) → (k a b : ℕ) → 1 ≤ a → b ≤ length R.exprs → b ≤ a + k → (g : ℕ) → tiles R g a b ≡ true → Span a b
  spanned all zero a b o l u g h =
      elim (hop g a b h) [ inl e ↦ record { forest = nil; stands = e } | inr x ↦ let p = x.after in let q = x.within in absurd (omega arith) ]
  spanned all (suc k) a b o l u g h =
      elim (hop g a b h) [
        | inl e ↦ record { forest = nil; stands = e }
        | inr x ↦
            let p = x.after in
            let q = x.within in
            let f = all a o (omega arith) in
            let items = spanned all k (a + 1) (expr_at R a).end (omega arith) f.within (omega arith) _ f.items in
            let rest = spanned all k (expr_at R a).end b (omega arith) l (omega arith) x.steps x.on in
            record { forest = more (node (term_of R a) items.forest nil) rest.forest; stands = ((expr_at R a).end, (refl, f.law, items.stands, refl, refl), rest.stands) }
      ]

  -- From any record on, hopping leads to the end.
  path-up : ((i : ℕ) → 1 ≤ i → i < length R.exprs → Fine i) → (k a : ℕ) → 1 ≤ a → a ≤ length R.exprs → length R.exprs ≤ a + k → tiles R k a (length R.exprs) ≡ true
  unfolding tiles
  path-up all zero a o l u = eq-eqb _ _ (omega arith)
  path-up all (suc k) a o l u =
      elim (cases_eq a (length R.exprs)) [
        | inl e ↦ rw (eq-eqb a (length R.exprs) e) refl
        | inr ne ↦
            let f = all a o (omega arith) in
            let p = f.after in
            rw (ne_eqb a (length R.exprs) ne) (and_from _ _ (lt-ltb _ _ p) (and_from _ _ (le-leb _ _ f.within) (path-up all k (expr_at R a).end (omega arith) f.within (omega arith))))
      ]

  pub terms-stand : expr_fault R ≡ none → (f : Forest Term) × ForestAt (expressions R) f 1 (max 1 (length R.exprs))
  terms-stand e = go (length R.exprs) refl
    where
      all : (i : ℕ) → 1 ≤ i → i < length R.exprs → Fine i
      all i l u = sound-fine i u (each_all (expr_sound R) (length R.exprs) e i l u)

      go : (n : ℕ) → length R.exprs ≡ n → (f : Forest Term) × ForestAt (expressions R) f 1 (max 1 (length R.exprs))
      go zero q = (nil, omega arith)
      go (suc n) q =
          let x = spanned all (length R.exprs) 1 (length R.exprs) (omega arith) (omega arith) (omega arith) (length R.exprs) (path-up all (length R.exprs) 1 (omega arith) (omega arith) (omega arith)) in
          let same : length R.exprs ≡ max 1 (length R.exprs) = omega arith in
          (x.forest, subst (λ (m : ℕ). ForestAt (expressions R) x.forest 1 m) same x.stands)

  -- ## From trees to the checks

  forest-tiles : (f : Forest Term) (a b : ℕ) → ForestAt (expressions R) f a b → (k : ℕ) → b ≤ a + k → tiles R k a b ≡ true
  unfolding tiles
  forest-tiles nil a b p k l = tiles-none k a b p
  forest-tiles (more s f) a b p zero l =
      let u = tree-lt (expressions R) s a p.0 p.1 in
      let v = forest-le (expressions R) f p.0 b p.2 in
      absurd (omega arith)
  forest-tiles (more s f) a b p (suc k) l =
      let u = tree-lt (expressions R) s a p.0 p.1 in
      let v = forest-le (expressions R) f p.0 b p.2 in
      let e : p.0 ≡ (expr_at R a).end = tree-end (expressions R) s a p.0 p.1 in
      let rest = subst (λ (m : ℕ). tiles R k m b ≡ true) e (forest-tiles f p.0 b p.2 k (omega arith)) in
      rw (ne_eqb a b (λ q. omega arith)) (and_from _ _ (lt-ltb a (expr_at R a).end (omega arith)) (and_from _ _ (le-leb (expr_at R a).end b (omega arith)) rest))

  pub terms-pass : (f : Forest Term) → ForestAt (expressions R) f 1 (max 1 (length R.exprs)) → expr_fault R ≡ none
  terms-pass f p = all-each (expr_sound R) (length R.exprs) (λ i l u. fine-sound i (go i u (each_f (expressions R) f 1 (max 1 (length R.exprs)) p i l (omega arith))))
    where
      made : (i : ℕ) → i < length R.exprs → (s : Tree Term) → TreeAt (expressions R) s i (expr_at R i).end → (expr_at R i).end ≤ max 1 (length R.exprs) → Fine i
      made i u (node h B C) q l =
          let v = forest-le (expressions R) B (i + 1) (expr_at R i).end q.2 in
          record { law = q.1; after = omega arith; within = omega arith; items = forest-tiles B (i + 1) (expr_at R i).end q.2 _ (omega arith) }

      go : (i : ℕ) → i < length R.exprs → Below (expressions R) (max 1 (length R.exprs)) i → Fine i
      go i u x = made i u x.tree x.at x.within
