-- The items of an expression, gone through one by one, and what they weigh.
use Rattle.std.proofs.Common.{◌≡◌, ℕ, zero, suc, ◌+◌, ◌-◌, ◌<◌, ◌≤◌, true, false, length, Some, None, Option, sym, refl, ap, ◌∙◌, subst, ap₂, inl, inr, add-one, arith, le-ltb, lt-ltb}
use mathlib.Core.Option.{none}
use borrow.Author.Tests.{both_ways}
use Rattle.records.specs.declared.kinds.Form.{Form}
use Rattle.records.specs.declared.kinds.Form.TheVariants.{Unit as UnitForm, True, Opaque, False, Name, AllOf, AnyOf}
use Rattle.records.specs.Meanings.{form_of, known, is_list}
use Rattle.records.specs.Tree.{Records, expr_at}
use Rattle.records.specs.Checks.{tiles, form_law, expr_sound, expr_fault}
use Rattle.records.proofs.Bools.{each_all}
use Rattle.records.proofs.Expressions.{form-end, Fine, sound-fine, hop}
use Rattle.meaning.specs.Reading.{Items, Items.end, Items.item}
use Rattle.meaning.specs.Fed.{Tables}
use Rattle.meaning.specs.Writers.{form_reading, items_from, written_reading, size, size_items}
use Rattle.writers.specs.Sizes.{weight, weigh}
use Rattle.writers.specs.Leaves.{decides, items_in}
use Rattle.writers.proofs.Forms.{size-form}

-- ## Weights

module _ (R : Records) where
  weigh-split : (j k a : ℕ) → weigh R (j + k) a ≡ weigh R j a + weigh R k (j + a)
  weigh-split zero k a =
      let e : 0 + k ≡ k = omega arith in
      let f : a ≡ 0 + a = omega arith in
      ap (λ (n : ℕ). weigh R n a) e ∙ (let z : weigh R k a ≡ 0 + weigh R k a = omega arith in z) ∙ ap (λ (n : ℕ). 0 + weigh R k n) f
  weigh-split (suc j) k a =
      let e : suc j + k ≡ suc (j + k) = omega arith in
      let f : j + suc a ≡ suc j + a = omega arith in
      ap (λ (n : ℕ). weigh R n a) e ∙ ap (λ (n : ℕ). weight R a + n) (weigh-split j k (suc a) ∙ ap (λ (n : ℕ). weigh R j (suc a) + weigh R k n) f)
      ∙ (let z : weight R a + (weigh R j (suc a) + weigh R k (suc j + a)) ≡ (weight R a + weigh R j (suc a)) + weigh R k (suc j + a) = omega arith in z)

  pub weigh-none : (a b : ℕ) → b ≤ a → weigh R (b - a) a ≡ 0
  weigh-none a b h = ap (λ (n : ℕ). weigh R n a) (let z : b - a ≡ 0 = omega arith in z)

-- ## Items

module _ (T : Tables) (R : Records) (passed : expr_fault R ≡ none) where
  abbrev count : ℕ
  count = length R.exprs

  abbrev past : ℕ → ℕ
  past i = (expr_at R i).end

  pub fine-at : (i : ℕ) → 1 ≤ i → i < count → Fine R i
  fine-at i lo hi = sound-fine R i hi (each_all (expr_sound R) count passed i lo hi)

  pub inner : (i : ℕ) → 1 ≤ i → i < count → tiles R (past i - suc i) (suc i) (past i) ≡ true
  inner i lo hi = subst (λ (n : ℕ). tiles R (past i - n) n (past i) ≡ true) (add-one i) (fine-at i lo hi).items

  items-none : (k a b : ℕ) → b ≤ a → items_from T R k a b ≡ end
  unfolding items_from
  items-none zero a b h = refl
  items-none (suc k) a b h = rw (le-ltb a b h) refl

  items_more : (k a b : ℕ) → a < b → items_from T R (suc k) a b ≡ item (expr_at R a).at (form_reading T R a (items_from T R k (suc a) (past a))) (items_from T R k (past a) b)
  unfolding items_from
  items_more k a b h = rw (lt-ltb a b h) refl

  -- More steps than enough change nothing.
  same : (k m a b : ℕ) → 1 ≤ a → b ≤ count → b ≤ a + k → b ≤ a + m → (g : ℕ) → tiles R g a b ≡ true → items_from T R k a b ≡ items_from T R m a b
  same zero m a b lo hi u v g h = items-none zero a b (omega arith) ∙ sym (items-none m a b (omega arith))
  same (suc k) zero a b lo hi u v g h = items-none (suc k) a b (omega arith) ∙ sym (items-none zero a b (omega arith))
  same (suc k) (suc m) a b lo hi u v g h =
      elim (hop R g a b h) [
        | inl e ↦ items-none (suc k) a b (omega arith) ∙ sym (items-none (suc m) a b (omega arith))
        | inr x ↦
            let p = x.after in
            let q = x.within in
            let f = fine-at a lo (omega arith) in
            items_more k a b (omega arith)
            ∙ ap₂ (λ (y z : Items). item (expr_at R a).at (form_reading T R a y) z)
            (same k m (suc a) (past a) (omega arith) f.within (omega arith) (omega arith) (past a - suc a) (inner a lo (omega arith)))
            (same k m (past a) b (omega arith) hi (omega arith) (omega arith) x.steps x.on)
            ∙ sym (items_more m a b (omega arith))
      ]

  -- The first item, and the items after it.
  pub items-step : (a b : ℕ) → 1 ≤ a → a < b → b ≤ count → tiles R (b - a) a b ≡ true → items_in T R a b ≡ item (expr_at R a).at (written_reading T R a) (items_in T R (past a) b)
  unfolding written_reading
  items-step a b lo l hi h =
      let n : count ≡ suc (count - 1) = omega arith in
      let f = fine-at a lo (omega arith) in
      let p = f.after in
      elim (hop R (b - a) a b h) [
        | inl e ↦ absurd (omega arith)
        | inr x ↦
            let q = x.within in
            ap (λ (k : ℕ). items_from T R k a b) n ∙ items_more (count - 1) a b l
            ∙ ap₂ (λ (y z : Items). item (expr_at R a).at (form_reading T R a y) z)
            (same (count - 1) count (suc a) (past a) (omega arith) f.within (omega (arith, f.within)) (omega (arith, f.within)) (past a - suc a) (inner a lo (omega arith)))
            (same (count - 1) count (past a) b (omega arith) hi (omega arith) (omega arith) x.steps x.on)
      ]

  pub items-end : (a b : ℕ) → b ≤ a → items_in T R a b ≡ end
  items-end a b h = items-none count a b h

  -- An item ends where its list ends, or before.
  pub item-within : (a b : ℕ) → a < b → tiles R (b - a) a b ≡ true → (a < past a) × (past a ≤ b)
  item-within a b l h = elim (hop R (b - a) a b h) [ inl e ↦ absurd (omega arith) | inr x ↦ (x.after, x.within) ]

  -- ## What items weigh

  -- A form that is no list has no items.
  bare-end : (i : ℕ) → 1 ≤ i → i < count → decides (form_of (expr_at R i).form) ≡ None → past i ≡ i + 1
  bare-end i lo hi h = go (form_of (expr_at R i).form) (fine-at i lo hi).law h
    where
      from : (f : Form) → decides (Some f) ≡ None → is_list f ≡ true → past i ≡ i + 1
      from UnitForm d e = absurd (both_ways false refl e)
      from True d e = absurd (both_ways false refl e)
      from Opaque d e = absurd (both_ways false refl e)
      from False d e = absurd (both_ways false refl e)
      from Name d e = absurd (both_ways false refl e)
      from AllOf d e = absurd (let z : ◌≡◌ {A = ℕ} 0 1 = cc in omega arith)
      from AnyOf d e = absurd (let z : ◌≡◌ {A = ℕ} 0 1 = cc in omega arith)

      go : (m : Option Form) → known m (λ f. form_law f R (expr_at R i) i) ≡ true → decides m ≡ None → past i ≡ i + 1
      go None w d = absurd (both_ways false refl w)
      go (Some f) w d = elim (form-end f R (expr_at R i) i w) [ inl x ↦ from f d x.0 | inr x ↦ x.1 ]

  reading-weighs : (i : ℕ) (is : Items) → 1 ≤ i → i < count → size_items is ≡ weigh R (past i - suc i) (suc i)
      → suc (size (form_reading T R i is)) ≡ weight R i + weigh R (past i - suc i) (suc i)
  reading-weighs i is lo hi e =
      size-form T R i is (λ d. e ∙ weigh-none R (suc i) (past i) (let q = bare-end i lo hi d in omega arith)) ∙ ap (λ (n : ℕ). weight R i + n) e

  items-weigh : (k a b : ℕ) → 1 ≤ a → b ≤ count → b ≤ a + k → (g : ℕ) → tiles R g a b ≡ true → size_items (items_from T R k a b) ≡ weigh R (b - a) a
  items-weigh zero a b lo hi u g h = ap size_items (items-none zero a b (omega arith)) ∙ sym (weigh-none R a b (omega arith))
  items-weigh (suc k) a b lo hi u g h =
      elim (hop R g a b h) [
        | inl e ↦ ap size_items (items-none (suc k) a b (omega arith)) ∙ sym (weigh-none R a b (omega arith))
        | inr x ↦
            let p = x.after in
            let q = x.within in
            let f = fine-at a lo (omega arith) in
            let n : b - a ≡ suc ((past a - suc a) + (b - past a)) = omega arith in
            let m : (past a - suc a) + suc a ≡ past a = omega arith in
            let i₁ = items-weigh k (suc a) (past a) (omega arith) f.within (omega arith) (past a - suc a) (inner a lo (omega arith)) in
            let i₂ = items-weigh k (past a) b (omega arith) hi (omega arith) x.steps x.on in
            let r = reading-weighs a (items_from T R k (suc a) (past a)) lo (omega arith) i₁ in
            let s = weigh-split R (past a - suc a) (b - past a) (suc a) in
            let t = ap (λ (z : ℕ). weigh R (b - past a) z) m in
            let w = ap (λ (z : ℕ). weigh R z a) n in
            let y = ap size_items (items_more k a b (omega arith)) in
            omega arith
      ]

  -- What the items of a list take, and what an expression with its test takes.
  pub all-weigh : (a b : ℕ) → 1 ≤ a → b ≤ count → tiles R (b - a) a b ≡ true → size_items (items_in T R a b) ≡ weigh R (b - a) a
  all-weigh a b lo hi h = items-weigh count a b lo hi (omega arith) (b - a) h

  pub weighs : (i : ℕ) → 1 ≤ i → i < count → suc (size (written_reading T R i)) ≡ weigh R (past i - i) i
  unfolding written_reading
  weighs i lo hi =
      let f = fine-at i lo hi in
      let p = f.after in
      let n : past i - i ≡ suc (past i - suc i) = omega arith in
      reading-weighs i (items_in T R (suc i) (past i)) lo hi (all-weigh (suc i) (past i) (omega arith) f.within (inner i lo hi)) ∙ sym (ap (λ (k : ℕ). weigh R k i) n)
