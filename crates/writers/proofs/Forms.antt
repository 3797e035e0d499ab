-- Readings and segments by the form of an expression.
use Rattle.std.proofs.Common.{◌≡◌, ℕ, suc, ◌+◌, Bool, true, false, cond, eqb, [], ◌∷◌, ◌++◌, Some, None, Option, sym, refl, ap, ◌∙◌, subst, inl, inr, arith, eqb-true}
use Rattle.std.proofs.lemmas.Bool.{cases_Bool}
use Rattle.records.specs.declared.kinds.Form.{Form}
use Rattle.records.specs.declared.kinds.Form.TheVariants.{Unit as UnitForm, True, Opaque, False, Name, AllOf, AnyOf}
use Rattle.records.specs.Meanings.{form_of}
use Rattle.records.specs.Tree.{Records, expr_at, name_of}
use Rattle.code.specs.declared.ops.Op.TheVariants.{Bool as BoolOp, Jump}
use Rattle.meaning.specs.Reading.{Bytes, Reading, Reading.unit, Reading.yes, Reading.opaque, Reading.no, Reading.all, Reading.any, Items}
use Rattle.meaning.specs.Fed.{Tables, number_of}
use Rattle.meaning.specs.Writers.{plain, name_reading, form_reading, size, size_items, load, written, written_items}
use Rattle.meaning.proofs.WritersPlay.{jump_on}
use Rattle.writers.specs.Sizes.{weight_of}
use Rattle.writers.specs.Leaves.{loaded, leaf_of, decides, closing}

-- The reading of a form, by the reading of its name and by its items.
abbrev choose : ℕ → Reading → Items → Option Form → Reading
choose e r is None = opaque e
choose e r is (Some UnitForm) = unit
choose e r is (Some True) = yes
choose e r is (Some Opaque) = opaque e
choose e r is (Some False) = no
choose e r is (Some Name) = r
choose e r is (Some AllOf) = all is
choose e r is (Some AnyOf) = any is

abbrev chain : ℕ → ℕ → Reading → Items → Reading
chain n e r is = cond (eqb n 1) unit (cond (eqb n 2) yes (cond (eqb n 4) no (cond (eqb n 5) r (cond (eqb n 6) (all is) (cond (eqb n 7) (any is) (opaque e))))))

chain-is : (n e : ℕ) (r : Reading) (is : Items) → chain n e r is ≡ choose e r is (form_of n)
chain-is n e r is =
    elim (cases_Bool (eqb n 3)) [
      | inl t ↦ subst (λ (k : ℕ). chain k e r is ≡ choose e r is (form_of k)) (sym (eqb-true n 3 t)) refl
      | inr f ↦ go (eqb n 1) (eqb n 2) (eqb n 3) (eqb n 4) (eqb n 5) (eqb n 6) (eqb n 7) f
    ]
  where
    go : (b₁ b₂ b₃ b₄ b₅ b₆ b₇ : Bool) → b₃ ≡ false
        → cond b₁ unit (cond b₂ yes (cond b₄ no (cond b₅ r (cond b₆ (all is) (cond b₇ (any is) (opaque e))))))
        ≡ choose e r is (cond b₁ (Some UnitForm) (cond b₂ (Some True) (cond b₃ (Some Opaque) (cond b₄ (Some False) (cond b₅ (Some Name) (cond b₆ (Some AllOf) (cond b₇ (Some AnyOf) None)))))))
    go true b₂ b₃ b₄ b₅ b₆ b₇ f = refl
    go false true b₃ b₄ b₅ b₆ b₇ f = refl
    go false false true b₄ b₅ b₆ b₇ f = absurd (let z : ◌≡◌ {A = ℕ} 0 1 = cc in omega arith)
    go false false false true b₅ b₆ b₇ f = refl
    go false false false false true b₆ b₇ f = refl
    go false false false false false true b₇ f = refl
    go false false false false false false true f = refl
    go false false false false false false false f = refl

-- A list that true or false decides.
abbrev pub list_of : Bool → Items → Reading
list_of true is = any is
list_of false is = all is

module _ (T : Tables) (R : Records) (e : ℕ) (is : Items) where
  abbrev form : Option Form
  form = form_of (expr_at R e).form

  abbrev bytes : Bytes
  bytes = (name_of R (expr_at R e).label).bytes

  abbrev named : Reading
  named = name_reading (number_of T bytes) bytes e

  form-is : form_reading T R e is ≡ choose e named is form
  form-is = chain-is (expr_at R e).form e named is

  size-name : (o : Option ℕ) → size (name_reading o bytes e) ≡ 1
  size-name None = refl
  size-name (Some x) = refl

  -- A list adds its items to its own weight; any other form has none.
  pub size-form : (decides form ≡ None → size_items is ≡ 0) → suc (size (form_reading T R e is)) ≡ weight_of form + size_items is
  size-form bare = ap (λ (r : Reading). suc (size r)) form-is ∙ go form bare
    where
      go : (m : Option Form) → (decides m ≡ None → size_items is ≡ 0) → suc (size (choose e named is m)) ≡ weight_of m + size_items is
      go None h = omega (arith, h refl)
      go (Some UnitForm) h = omega (arith, h refl)
      go (Some True) h = omega (arith, h refl)
      go (Some Opaque) h = omega (arith, h refl)
      go (Some False) h = omega (arith, h refl)
      go (Some Name) h = omega (arith, h refl, size-name (number_of T bytes))
      go (Some AllOf) h = omega arith
      go (Some AnyOf) h = omega arith

  -- Any other form has one operation.
  pub record Leaf (a : ℕ) : Type 0 where
    pub one : size (form_reading T R e is) ≡ 1
    pub op : written T (form_reading T R e is) a ≡ plain (leaf_of T R form e) ∷ []

  pub leaf : (a : ℕ) → decides form ≡ None → Leaf a
  leaf a h = let p = go form h in record { one = ap size form-is ∙ p.0; op = ap (λ (r : Reading). written T r a) form-is ∙ p.1 }
    where
      loads : (o : Option ℕ) → number_of T bytes ≡ o → written T (name_reading o bytes e) a ≡ plain (loaded o e) ∷ []
      loads None q = refl
      loads (Some x) q = ap (λ (o : Option ℕ). load o ∷ []) q

      go : (m : Option Form) → decides m ≡ None → (size (choose e named is m) ≡ 1) × (written T (choose e named is m) a ≡ plain (leaf_of T R m e) ∷ [])
      go None h = (refl, refl)
      go (Some UnitForm) h = (refl, refl)
      go (Some True) h = (refl, refl)
      go (Some Opaque) h = (refl, refl)
      go (Some False) h = (refl, refl)
      go (Some Name) h = (size-name (number_of T bytes), loads (number_of T bytes) refl)
      go (Some AllOf) h = absurd (let z : ◌≡◌ {A = ℕ} 0 1 = cc in omega arith)
      go (Some AnyOf) h = absurd (let z : ◌≡◌ {A = ℕ} 0 1 = cc in omega arith)

  pub list-is : (on : Bool) → decides form ≡ Some on → form_reading T R e is ≡ list_of on is
  list-is on h = form-is ∙ go form h
    where
      go : (m : Option Form) → decides m ≡ Some on → choose e named is m ≡ list_of on is
      go None h = absurd (let z : ◌≡◌ {A = ℕ} 0 1 = cc in omega arith)
      go (Some UnitForm) h = absurd (let z : ◌≡◌ {A = ℕ} 0 1 = cc in omega arith)
      go (Some True) h = absurd (let z : ◌≡◌ {A = ℕ} 0 1 = cc in omega arith)
      go (Some Opaque) h = absurd (let z : ◌≡◌ {A = ℕ} 0 1 = cc in omega arith)
      go (Some False) h = absurd (let z : ◌≡◌ {A = ℕ} 0 1 = cc in omega arith)
      go (Some Name) h = absurd (let z : ◌≡◌ {A = ℕ} 0 1 = cc in omega arith)
      go (Some AllOf) h = let q : false ≡ on = cc in ap (λ (b : Bool). list_of b is) q
      go (Some AnyOf) h = let q : true ≡ on = cc in ap (λ (b : Bool). list_of b is) q

-- ## Lists

pub size-list : (on : Bool) (is : Items) → size (list_of on is) ≡ size_items is + 3
size-list true is = omega arith
size-list false is = omega arith

pub written-list : (T : Tables) (on : Bool) (is : Items) (a z f : ℕ) → z ≡ a + size_items is → f ≡ z + 2 → written T (list_of on is) a ≡ written_items T is (jump_on on) f a ++ closing on z
written-list T on is a z f e g = go on
  where
    q : suc (suc (size_items is + a)) ≡ f
    q = omega arith

    p : suc (suc (suc (size_items is + a))) ≡ z + 3
    p = omega arith

    go : (on : Bool) → written T (list_of on is) a ≡ written_items T is (jump_on on) f a ++ closing on z
    go true = ap (λ (k : ℕ). written_items T is (jump_on true) k a ++ (plain (BoolOp false) ∷ plain (Jump (suc (suc (suc (size_items is + a))))) ∷ plain (BoolOp true) ∷ [])) q
        ∙ ap (λ (k : ℕ). written_items T is (jump_on true) f a ++ (plain (BoolOp false) ∷ plain (Jump k) ∷ plain (BoolOp true) ∷ [])) p
    go false = ap (λ (k : ℕ). written_items T is (jump_on false) k a ++ (plain (BoolOp true) ∷ plain (Jump (suc (suc (suc (size_items is + a))))) ∷ plain (BoolOp false) ∷ [])) q
        ∙ ap (λ (k : ℕ). written_items T is (jump_on false) f a ++ (plain (BoolOp true) ∷ plain (Jump k) ∷ plain (BoolOp false) ∷ [])) p
