-- Names, operator rows and slots: what their numbers mean in the tables that a whole lowering leaves.
use Rattle.std.proofs.Common.{◌≡◌, ℕ, zero, suc, ◌+◌, ◌<◌, ◌≤◌, Bool, true, false, cond, eqb, ◌⊎◌, List, [], ◌∷◌, ◌++◌, length, get_or, take, Some, None, Option, sym, refl, ap, ◌∙◌, subst, ap₂, inl, inr, add-one, arith, length-append, eq-eqb, eqb-true}
use lib.ListN.{get_or-append}
use borrow.Author.Tests.{clash}
use Rattle.std.proofs.lemmas.List.{get_or_push, append-nil}
use Rattle.std.proofs.lemmas.Bool.{cases_lt, and_parts}
use Rattle.records.specs.declared.refusals.Refusal.TheVariants.{NoRoom}
use Rattle.records.specs.Tree.{Records, name_of}
use Rattle.code.specs.declared.ops.Row.{Row}
use Rattle.code.specs.declared.ops.AssignOp.{AssignOp}
use Rattle.meaning.specs.Reading.{Bytes, same_bytes}
use Rattle.meaning.specs.Fed.{no_sign, place_from}
use Rattle.meaning.specs.LowerState.{Low, Pile, Out.ok, M, bind, pushed, has_room, with_names, with_opers, first_same, entered, same_name, enter_name, same_oper, enter_oper, newest_same}
use Rattle.meaning.specs.Compiled.{spelled, sign_in, signs_in}
use Rattle.meaning.proofs.Place.{Scopes, flat, depth, resolve_from}
use Rattle.meaning.proofs.Monad.{bind_ok, cond-ok}
use Rattle.meaning.proofs.Aims.{Fin, layout_of, Prefix, prefix_back, prefix-self, Tabs, snoc}

-- ## Sameness

pub same-is : (a b : Bytes) → same_bytes a b ≡ true → a ≡ b
same-is [] [] e = refl
same-is [] (y ∷ ys) e = absurd (clash e)
same-is (x ∷ xs) [] e = absurd (clash e)
same-is (x ∷ xs) (y ∷ ys) e =
    let p = and_parts (eqb x y) (same_bytes xs ys) e in
    ap₂ (λ (a : ℕ) (l : Bytes). a ∷ l) (eqb-true x y p.0) (same-is xs ys p.1)

pub same_refl : (a : Bytes) → same_bytes a a ≡ true
same_refl [] = refl
same_refl (x ∷ xs) = rw (eq-eqb x x refl) (same_refl xs)

oper-is : (a b : AssignOp) → same_oper a b ≡ true → a ≡ b
oper-is a b e =
    let p = and_parts (eqb a.op_assign b.op_assign) _ e in
    let q = and_parts (eqb a.op_assign_name b.op_assign_name) _ p.1 in
    let r = and_parts (eqb a.op b.op) _ q.1 in
    let e₁ = eqb-true _ _ p.0 in let e₂ = eqb-true _ _ q.0 in let e₃ = eqb-true _ _ r.0 in let e₄ = eqb-true _ _ r.1 in
    λ i. record { op_assign = e₁ i; op_assign_name = e₂ i; op = e₃ i; op_name = e₄ i }

-- ## The first same entry

module _ {X : Type 0} (same : X → X → Bool) (d : X) where
  -- A first same entry that is found is in the list, and is the same.
  pub first_found : (x : X) (i r : ℕ) (ys : List X) → first_same same x i ys ≡ Some r → (j : ℕ) × (r ≡ i + j) × (j < length ys) × (same (get_or ys j d) x ≡ true)
  first_found x i r [] e = let z : ◌≡◌ {A = ℕ} 0 1 = cc in absurd (omega arith)
  first_found x i r (y ∷ ys) e = go (same y x) refl e (λ f. first_found x (suc i) r ys f)
    where
      go : (b : Bool) → same y x ≡ b → cond b (Some i) (first_same same x (suc i) ys) ≡ Some r
          → (first_same same x (suc i) ys ≡ Some r → (j : ℕ) × (r ≡ suc i + j) × (j < length ys) × (same (get_or ys j d) x ≡ true))
          → (j : ℕ) × (r ≡ i + j) × (j < length (y ∷ ys)) × (same (get_or (y ∷ ys) j d) x ≡ true)
      go true p f ih = let q : i ≡ r = cc in (0, omega arith, omega arith, p)
      go false p f ih = let q = ih f in (suc q.0, omega arith, omega arith, q.3)

  first-left : (x : X) (i r : ℕ) (ys zs : List X) → first_same same x i ys ≡ Some r → first_same same x i (ys ++ zs) ≡ Some r
  first-left x i r [] zs e = let z : ◌≡◌ {A = ℕ} 0 1 = cc in absurd (omega arith)
  first-left x i r (y ∷ ys) zs e = go (same y x) e (λ f. first-left x (suc i) r ys zs f)
    where
      go : (b : Bool) → cond b (Some i) (first_same same x (suc i) ys) ≡ Some r → (first_same same x (suc i) ys ≡ Some r → first_same same x (suc i) (ys ++ zs) ≡ Some r) → cond b (Some i) (first_same same x (suc i) (ys ++ zs)) ≡ Some r
      go true f ih = f
      go false f ih = ih f

  first-new : (x : X) (i : ℕ) (ys : List X) → same x x ≡ true → first_same same x i ys ≡ None → first_same same x i (ys ++ x ∷ []) ≡ Some (i + length ys)
  first-new x i [] s e = let p : i + 0 ≡ i = omega arith in rw (s, p) refl
  first-new x i (y ∷ ys) s e = go (same y x) e (λ f. first-new x (suc i) ys s f)
    where
      go : (b : Bool) → cond b (Some i) (first_same same x (suc i) ys) ≡ None → (first_same same x (suc i) ys ≡ None → first_same same x (suc i) (ys ++ x ∷ []) ≡ Some (suc i + length ys)) → cond b (Some i) (first_same same x (suc i) (ys ++ x ∷ [])) ≡ Some (i + length (y ∷ ys))
      go true f ih = let z : ◌≡◌ {A = ℕ} 0 1 = cc in absurd (omega arith)
      go false f ih = ih f ∙ ap Some (omega arith)

place-first : (b : Bytes) (i : ℕ) (ns : List Bytes) → place_from b i ns ≡ first_same same_bytes b i ns
place-first b i [] = refl
place-first b i (n ∷ ns) = ap (λ (o : Option ℕ). cond (same_bytes n b) (Some i) o) (place-first b (suc i) ns)

first-spelled : (R : Records) (l i : ℕ) (held : List ℕ) → first_same (same_name R) l i held ≡ first_same same_bytes (name_of R l).bytes i (spelled R held)
first-spelled R l i [] = refl
first-spelled R l i (k ∷ held) = ap (λ (o : Option ℕ). cond (same_bytes (name_of R k).bytes (name_of R l).bytes) (Some i) o) (first-spelled R l (suc i) held)

-- ## Spelled labels

pub spelled-append : (R : Records) (xs ys : List ℕ) → spelled R (xs ++ ys) ≡ spelled R xs ++ spelled R ys
spelled-append R [] ys = refl
spelled-append R (x ∷ xs) ys = ap (λ (l : List Bytes). (name_of R x).bytes ∷ l) (spelled-append R xs ys)

pub spelled-length : (R : Records) (xs : List ℕ) → length (spelled R xs) ≡ length xs
spelled-length R [] = refl
spelled-length R (x ∷ xs) = ap suc (spelled-length R xs)

pub spelled-take : (R : Records) (d : ℕ) (xs : List ℕ) → spelled R (take d xs) ≡ take d (spelled R xs)
spelled-take R zero xs = refl
spelled-take R (suc d) [] = refl
spelled-take R (suc d) (x ∷ xs) = ap (λ (l : List Bytes). (name_of R x).bytes ∷ l) (spelled-take R d xs)

-- The newest slot of a name, by its bytes.
pub newest-spelled : (R : Records) (l i : ℕ) (o : Option ℕ) (held : List ℕ) → newest_same (same_name R) l i o held ≡ resolve_from (name_of R l).bytes i o (spelled R held)
newest-spelled R l i o [] = refl
newest-spelled R l i o (k ∷ held) =
    let q : Option ℕ = cond (same_bytes (name_of R k).bytes (name_of R l).bytes) (Some i) o in
    newest-spelled R l (suc i) q held ∙ ap (λ (n : ℕ). resolve_from (name_of R l).bytes n q (spelled R held)) (sym (add-one i))

pub flat-length : (ns : Scopes) → length (flat ns) ≡ depth ns
flat-length [] = refl
flat-length (n ∷ ns) = let e = length-append (flat ns) n in let i = flat-length ns in omega arith

-- ## The name table

-- No name comes twice.
abbrev pub Dist : Records → List ℕ → Type 0
Dist R held = (x : ℕ) → x < length (spelled R held) → place_from (get_or (spelled R held) x []) 0 (spelled R held) ≡ Some x

-- A name has this number in a table that goes on from another.
pub record Entry (R : Records) (old : List ℕ) (b : Bytes) (n : ℕ) (held : List ℕ) : Type 0 where
  pub there : n < length (spelled R held)
  pub is : get_or (spelled R held) n [] ≡ b
  pub grew : Prefix old held
  pub dist : Dist R old → Dist R held

entry_found : (R : Records) (l n : ℕ) (held : List ℕ) → first_same (same_name R) l 0 held ≡ Some n → Entry R held (name_of R l).bytes n held
entry_found R l n held e =
    let f = first_found same_bytes [] (name_of R l).bytes 0 n (spelled R held) (sym (first-spelled R l 0 held) ∙ e) in
    let i : n ≡ f.0 = omega arith in
    record { there = omega arith; is = subst (λ (j : ℕ). get_or (spelled R held) j [] ≡ (name_of R l).bytes) (sym i) (same-is _ _ f.3); grew = ([], sym (append-nil held)); dist = λ d. d }

entry_new : (R : Records) (l : ℕ) (held : List ℕ) → first_same (same_name R) l 0 held ≡ None → Entry R held (name_of R l).bytes (length held) (held ++ l ∷ [])
entry_new R l held e =
    let len = spelled-length R held in
    let app = spelled-append R held (l ∷ []) in
    let lap : length (spelled R (held ++ l ∷ [])) ≡ suc (length held) = spelled-length R (held ++ l ∷ []) ∙ snoc held l in
    record {
      there = omega arith;
      is = ap (λ (z : List Bytes). get_or z (length held) []) app ∙ get_or_push (spelled R held) b [] (length held) len;
      grew = prefix-self held l;
      dist = λ d x h. subst (λ (z : List Bytes). place_from (get_or z x []) 0 z ≡ Some x) (sym app) (go d x (cases_lt x (length (spelled R held))) (omega arith));
    }
  where
    b : Bytes
    b = (name_of R l).bytes

    go : Dist R held → (x : ℕ) → (x < length (spelled R held)) ⊎ (length (spelled R held) ≤ x) → x < suc (length (spelled R held)) → place_from (get_or (spelled R held ++ b ∷ []) x []) 0 (spelled R held ++ b ∷ []) ≡ Some x
    go d x (inl p) h =
        let q = d x p in
        rw (get_or-append (spelled R held) (b ∷ []) [] x p)
        (place-first _ 0 (spelled R held ++ b ∷ []) ∙ first-left same_bytes [] (get_or (spelled R held) x []) 0 x (spelled R held) (b ∷ []) (sym (place-first _ 0 (spelled R held)) ∙ q))
    go d x (inr p) h =
        let i : length (spelled R held) ≡ x = omega arith in
        let new : first_same same_bytes b 0 (spelled R held ++ b ∷ []) ≡ Some (0 + length (spelled R held)) = first-new same_bytes [] b 0 (spelled R held) (same_refl b) (sym (first-spelled R l 0 held) ∙ e) in
        rw (get_or_push (spelled R held) b [] x i) (place-first b 0 (spelled R held ++ b ∷ []) ∙ new ∙ ap Some (omega arith))

-- A name is entered: its number, and the table after it.
pub name-ok : {Y : Type 0} (R : Records) (l : ℕ) (k : ℕ → M Y) (s t : Low) (y : Y) → bind (enter_name R l) k s ≡ ok y t
    → (n : ℕ) × (p : Pile ℕ) × Entry R s.names.held (name_of R l).bytes n p.held × (k n (with_names p s) ≡ ok y t)
unfolding enter_name
name-ok {Y} R l k s t y h = go (first_same (same_name R) l 0 s.names.held) refl h
  where
    Goal : Type 0
    Goal = (n : ℕ) × (p : Pile ℕ) × Entry R s.names.held (name_of R l).bytes n p.held × (k n (with_names p s) ≡ ok y t)

    go : (o : Option ℕ) → first_same (same_name R) l 0 s.names.held ≡ o → bind (entered o l s.names (λ p. with_names p s)) k s ≡ ok y t → Goal
    go (Some n) e f = (n, s.names, entry_found R l n s.names.held e, f)
    go None e f =
        let b = bind_ok (entered None l s.names (λ p. with_names p s)) k s t y f in
        let c = cond-ok (has_room s.names) (length s.names.held) (with_names (pushed l s.names) s) NoRoom b.0 b.1 b.2 in
        let p : length s.names.held ≡ b.0 = cc in
        let q : with_names (pushed l s.names) s ≡ b.1 = cc in (
          length s.names.held,
          pushed l s.names,
          entry_new R l s.names.held e,
          subst (λ (z : ℕ). k z (with_names (pushed l s.names) s) ≡ ok y t) (sym p) (subst (λ (w : Low). k b.0 w ≡ ok y t) (sym q) b.3),
        )

-- In the whole lowering's table it is the same name.
pub name_back : (R : Records) (F : Fin) (rows : List Row) (old held : List ℕ) (opers : List AssignOp) (d n : ℕ) (b : Bytes) → Entry R old b n held → Tabs F rows held opers d
    → (layout_of R F).Name' n b × Tabs F rows old opers d
name_back R F rows old held opers d n b e t =
    let p = t.names-on in
    let q : spelled R F.names ≡ spelled R held ++ spelled R p.0 = ap (spelled R) p.1 ∙ spelled-append R held p.0 in
    let l : length (spelled R F.names) ≡ length (spelled R held) + length (spelled R p.0) = ap length q ∙ length-append (spelled R held) (spelled R p.0) in
    let there = e.there in (
      (omega arith, ap (λ (z : List Bytes). get_or z n []) q ∙ get_or-append (spelled R held) (spelled R p.0) [] n there ∙ e.is),
      record { rows_on = t.rows_on; names-on = prefix_back old held F.names e.grew p; opers-on = t.opers-on; deep = t.deep },
    )

-- ## Operator rows

abbrev pub no_oper : AssignOp
no_oper = record { op_assign = 0; op_assign_name = 0; op = 0; op_name = 0 }

pub record OperEntry (old : List AssignOp) (o : AssignOp) (r : ℕ) (held : List AssignOp) : Type 0 where
  pub there : r < length held
  pub is : get_or held r no_oper ≡ o
  pub grew : Prefix old held

pub oper-ok : {Y : Type 0} (o : AssignOp) (k : ℕ → M Y) (s t : Low) (y : Y) → bind (enter_oper o) k s ≡ ok y t
    → (r : ℕ) × (p : Pile AssignOp) × OperEntry s.opers.held o r p.held × (k r (with_opers p s) ≡ ok y t)
unfolding enter_oper
oper-ok {Y} o k s t y h = go (first_same same_oper o 0 s.opers.held) refl h
  where
    go : (m : Option ℕ) → first_same same_oper o 0 s.opers.held ≡ m → bind (entered m o s.opers (λ p. with_opers p s)) k s ≡ ok y t
        → (r : ℕ) × (p : Pile AssignOp) × OperEntry s.opers.held o r p.held × (k r (with_opers p s) ≡ ok y t)
    go (Some r) e f =
        let g = first_found same_oper no_oper o 0 r s.opers.held e in
        let i : r ≡ g.0 = omega arith in
        (r, s.opers, record { there = omega arith; is = subst (λ (j : ℕ). get_or s.opers.held j no_oper ≡ o) (sym i) (oper-is _ _ g.3); grew = ([], sym (append-nil s.opers.held)) }, f)
    go None e f =
        let b = bind_ok (entered None o s.opers (λ p. with_opers p s)) k s t y f in
        let c = cond-ok (has_room s.opers) (length s.opers.held) (with_opers (pushed o s.opers) s) NoRoom b.0 b.1 b.2 in
        let p : length s.opers.held ≡ b.0 = cc in
        let q : with_opers (pushed o s.opers) s ≡ b.1 = cc in
        let l = snoc s.opers.held o in (
          length s.opers.held,
          pushed o s.opers,
          record { there = omega arith; is = get_or_push s.opers.held o no_oper (length s.opers.held) refl; grew = prefix-self s.opers.held o },
          subst (λ (z : ℕ). k z (with_opers (pushed o s.opers) s) ≡ ok y t) (sym p) (subst (λ (w : Low). k b.0 w ≡ ok y t) (sym q) b.3),
        )

signs-at : (ns : List Bytes) (os : List AssignOp) (r : ℕ) → r < length os → get_or (signs_in ns os) r no_sign ≡ sign_in ns (get_or os r no_oper)
signs-at ns [] r h = absurd (omega arith)
signs-at ns (o ∷ os) zero h = refl
signs-at ns (o ∷ os) (suc r) h = signs-at ns os r (omega arith)

pub oper-back : (R : Records) (F : Fin) (rows : List Row) (names : List ℕ) (old held : List AssignOp) (d r : ℕ) (o : AssignOp) → OperEntry old o r held → Tabs F rows names held d
    → (get_or (signs_in (spelled R F.names) F.opers) r no_sign ≡ sign_in (spelled R F.names) o) × Tabs F rows names old d
oper-back R F rows names old held d r o e t =
    let p = t.opers-on in
    let l : length F.opers ≡ length held + length p.0 = ap length p.1 ∙ length-append held p.0 in
    let there = e.there in
    let g : get_or F.opers r no_oper ≡ o = ap (λ (z : List AssignOp). get_or z r no_oper) p.1 ∙ get_or-append held p.0 no_oper r there ∙ e.is in (
      signs-at (spelled R F.names) F.opers r (omega arith) ∙ ap (sign_in (spelled R F.names)) g,
      record { rows_on = t.rows_on; names-on = t.names-on; opers-on = prefix_back old held F.opers e.grew p; deep = t.deep },
    )
