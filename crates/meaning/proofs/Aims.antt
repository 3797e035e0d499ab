-- Lowered code read backwards from the whole program: what stands at a place is what was emitted there, pointed at the
-- target that it is given later, if it is given one.
use Rattle.std.proofs.Common.{◌≡◌, ℕ, suc, ◌+◌, ◌<◌, ◌≤◌, true, cond, ◌&&◌, eqb, ltb, ◌⊎◌, List, [], ◌∷◌, ◌++◌, length, get_or, Some, None, Option, sym, refl, ap, ◌∙◌, subst, inl, inr, append_assoc, add-one, arith, length-append, length-set, lt-ltb, eq-eqb, ne_eqb}
use lib.ListN.{get_or-append}
use Rattle.std.proofs.lemmas.List.{length_push, get_or_push, get_or-set_same, get_or-set_other, get_or_default}
use Rattle.std.proofs.lemmas.Bool.{cases_eq}
use Rattle.records.specs.declared.types.Position.{Position}
use Rattle.records.specs.Tree.{Records, Exp, nowhere}
use Rattle.code.specs.declared.ops.Op.{Op}
use Rattle.code.specs.declared.ops.Op.TheVariants.{EvalAst}
use Rattle.code.specs.declared.ops.Instr.{Instr}
use Rattle.code.specs.declared.ops.Row.{Row}
use Rattle.code.specs.declared.ops.AssignOp.{AssignOp}
use Rattle.meaning.specs.Machine.{no_row}
use Rattle.meaning.specs.Calls.{instr_at, no_instr}
use Rattle.meaning.specs.Agreement.{Heights}
use Rattle.meaning.specs.LowerState.{Low, aimed, aimed_at, blank_instr, patch, patch_all}
use Rattle.meaning.specs.Compiled.{tables_of}
use Rattle.meaning.specs.SetCode.{expr_of}
use Rattle.meaning.proofs.Place.{Layout}
use Rattle.meaning.proofs.Lowered.{no_heights, low_layout}
use Rattle.meaning.proofs.Monad.{at, emitted, rowed, evaluated}

-- What a whole lowering leaves, with heights place by place.
pub record Fin : Type 0 where
  pub code : List Instr
  pub rows : List Row
  pub names : List ℕ
  pub opers : List AssignOp
  pub deepest : ℕ
  pub heights : List Heights

abbrev pub layout_of : Records → Fin → Layout
layout_of R F = low_layout F.code F.rows (tables_of R F.names F.opers) F.deepest F.heights

-- ## Targets that are given later

-- The target that each place is still to be given, if any.
abbrev pub Aims : Type 0
Aims = ℕ → Option ℕ

abbrev pub none : Aims
none i = None

abbrev pub aim : ℕ → ℕ → Aims → Aims
aim site t S i = cond (eqb i site) (Some t) (S i)

abbrev pub aim_all : List ℕ → ℕ → Aims → Aims
aim_all [] t S = S
aim_all (x ∷ xs) t S = aim x t (aim_all xs t S)

abbrev pub settled : Option ℕ → Instr → Instr
settled None x = x
settled (Some t) x = aimed_at t x

pub aim_same : (site t : ℕ) (S : Aims) → aim site t S site ≡ Some t
aim_same site t S = rw (eq-eqb site site refl) refl

pub aim-other : (site t : ℕ) (S : Aims) (i : ℕ) → (i ≡ site → ⊥) → aim site t S i ≡ S i
aim-other site t S i n = rw (ne_eqb i site n) refl

-- Places in ascending order, from a up to before b.
abbrev pub Within : ℕ → ℕ → List ℕ → Type 0
Within a b [] = Unit {0}
Within a b (x ∷ xs) = (a ≤ x) × (x < b) × Within (suc x) b xs

pub within_wider : (a b c d : ℕ) (xs : List ℕ) → a ≤ b → c ≤ d → Within b c xs → Within a d xs
within_wider a b c d [] p q w = tt
within_wider a b c d (x ∷ xs) p q w = (omega arith, omega arith, within_wider (suc x) (suc x) c d xs (omega arith) q w.2)

pub within-append : (a b c : ℕ) (xs ys : List ℕ) → a ≤ b → b ≤ c → Within a b xs → Within b c ys → Within a c (xs ++ ys)
within-append a b c [] ys p q w v = within_wider a b c c ys p (omega arith) v
within-append a b c (x ∷ xs) ys p q w v = (w.0, omega arith, within-append (suc x) b c xs ys (omega arith) q w.2 v)

pub aim_all-below : (a b t : ℕ) (xs : List ℕ) (S : Aims) → Within a b xs → (i : ℕ) → i < a → aim_all xs t S i ≡ S i
aim_all-below a b t [] S w i l = refl
aim_all-below a b t (x ∷ xs) S w i l = aim-other x t (aim_all xs t S) i (λ e. omega arith) ∙ aim_all-below (suc x) b t xs S w.2 i (omega arith)

pub aim_all-above : (a b t : ℕ) (xs : List ℕ) (S : Aims) → Within a b xs → (i : ℕ) → b ≤ i → aim_all xs t S i ≡ S i
aim_all-above a b t [] S w i l = refl
aim_all-above a b t (x ∷ xs) S w i l = aim-other x t (aim_all xs t S) i (λ e. omega arith) ∙ aim_all-above (suc x) b t xs S w.2 i l

pub aim_all-append : (xs ys : List ℕ) (t : ℕ) (S : Aims) (i : ℕ) → aim_all (xs ++ ys) t S i ≡ aim_all xs t (aim_all ys t S) i
aim_all-append [] ys t S i = refl
aim_all-append (x ∷ xs) ys t S i = ap (λ (o : Option ℕ). cond (eqb i x) (Some t) o) (aim_all-append xs ys t S i)

-- What is given later at a place depends on that place only.
pub aim_all-at : (xs : List ℕ) (t : ℕ) (S V : Aims) (i : ℕ) → S i ≡ V i → aim_all xs t S i ≡ aim_all xs t V i
aim_all-at [] t S V i e = e
aim_all-at (x ∷ xs) t S V i e = ap (λ (o : Option ℕ). cond (eqb i x) (Some t) o) (aim_all-at xs t S V i e)

-- From a place to another, targets are given later only to these places, and it is this target.
abbrev pub Quiet : Aims → ℕ → ℕ → List ℕ → ℕ → Type 0
Quiet S a b xs t = (i : ℕ) → a ≤ i → i < b → S i ≡ aim_all xs t none i

-- ## Code and heights

-- Heights by places, with one put anew.
abbrev pub noted : ℕ → Heights → (ℕ → Heights) → ℕ → Heights
noted a h hs i = cond (eqb i a) h (hs i)

-- Code at some time, as the whole program has it.
pub record Ops (F : Fin) (S : Aims) (code : List Instr) (hs : ℕ → Heights) : Type 0 where
  pub long : length code ≤ length F.code
  pub ops : (i : ℕ) → i < length code → instr_at F.code i ≡ settled (S i) (instr_at code i)
  pub high : (i : ℕ) → i < length code → get_or F.heights i no_heights ≡ hs i

-- Other targets and heights of places to come do not matter.
pub ops-same : (F : Fin) (S V : Aims) (code : List Instr) (hs ks : ℕ → Heights) → ((i : ℕ) → i < length code → S i ≡ V i) → ((i : ℕ) → i < length code → hs i ≡ ks i) → Ops F S code hs → Ops F V code ks
ops-same F S V code hs ks p q o =
    record { long = o.long; ops = λ i l. o.ops i l ∙ ap (λ (z : Option ℕ). settled z (instr_at code i)) (p i l); high = λ i l. o.high i l ∙ q i l }

pub snoc : {X : Type 0} (xs : List X) (x : X) → length (xs ++ x ∷ []) ≡ suc (length xs)
snoc xs x = length_push xs x ∙ add-one (length xs)

-- One operation back.
pub ops-less : (F : Fin) (S : Aims) (code : List Instr) (x : Instr) (hs : ℕ → Heights) → Ops F S (code ++ x ∷ []) hs
    → (length code < length F.code) × (instr_at F.code (length code) ≡ settled (S (length code)) x) × (get_or F.heights (length code) no_heights ≡ hs (length code)) × Ops F S code hs
ops-less F S code x hs o =
    let l = snoc code x in
    let long = o.long in (
      omega arith,
      o.ops (length code) (omega arith) ∙ ap (λ (z : Instr). settled (S (length code)) z) (get_or_push code x no_instr (length code) refl),
      o.high (length code) (omega arith),
      record { long = omega arith; ops = λ i b. o.ops i (omega arith) ∙ ap (λ (z : Instr). settled (S i) z) (get_or-append code (x ∷ []) no_instr i b); high = λ i b. o.high i (omega arith) },
    )

-- A place that is pointed at a target, and is given none later, had that target still to come.
pub ops-patch : (F : Fin) (S : Aims) (code : List Instr) (hs : ℕ → Heights) (site t : ℕ) → site < length code → S site ≡ None → Ops F S (patch site t code) hs → Ops F (aim site t S) code hs
ops-patch F S code hs site t l n o =
    let e = length-set code site (aimed_at t (get_or code site blank_instr)) in
    let long = o.long in
    record { long = omega arith; ops = λ i b. go i b (cases_eq i site); high = λ i b. o.high i (omega arith) }
  where
    go : (i : ℕ) → i < length code → (i ≡ site) ⊎ (i ≡ site → ⊥) → instr_at F.code i ≡ settled (aim site t S i) (instr_at code i)
    go i b (inl e) =
        let len = length-set code site (aimed_at t (get_or code site blank_instr)) in
        let p = o.ops site (omega arith) in
        let q : settled (S site) (instr_at (patch site t code) site) ≡ aimed_at t (get_or code site blank_instr) = rw n (get_or-set_same code site (aimed_at t (get_or code site blank_instr)) no_instr l) in
        let r : aimed_at t (get_or code site blank_instr) ≡ aimed_at t (instr_at code site) = ap (λ (x : Instr). aimed_at t x) (get_or_default code site blank_instr no_instr l) in
        let s : settled (aim site t S site) (instr_at code site) ≡ aimed_at t (instr_at code site) = ap (λ (z : Option ℕ). settled z (instr_at code site)) (aim_same site t S) in
        subst (λ (j : ℕ). instr_at F.code j ≡ settled (aim site t S j) (instr_at code j)) (sym e) (p ∙ q ∙ r ∙ sym s)
    go i b (inr f) =
        let len = length-set code site (aimed_at t (get_or code site blank_instr)) in
        o.ops i (omega arith)
        ∙ ap (λ (x : Instr). settled (S i) x) (get_or-set_other code site i (aimed_at t (get_or code site blank_instr)) no_instr f)
        ∙ ap (λ (z : Option ℕ). settled z (instr_at code i)) (sym (aim-other site t S i f))

pub length-patch_all : (sites : List ℕ) (t : ℕ) (code : List Instr) → length (patch_all sites t code) ≡ length code
length-patch_all [] t code = refl
length-patch_all (x ∷ xs) t code = length-patch_all xs t (patch x t code) ∙ length-set code x (aimed_at t (get_or code x blank_instr))

pub ops-patch_all : (F : Fin) (S : Aims) (sites : List ℕ) (code : List Instr) (hs : ℕ → Heights) (t a b : ℕ) → Within a b sites → b ≤ length code → ((i : ℕ) → a ≤ i → i < b → S i ≡ None)
    → Ops F S (patch_all sites t code) hs → Ops F (aim_all sites t S) code hs
ops-patch_all F S [] code hs t a b w l n o = o
ops-patch_all F S (x ∷ xs) code hs t a b w l n o =
    let len = length-set code x (aimed_at t (get_or code x blank_instr)) in
    let m : (i : ℕ) → suc x ≤ i → i < b → S i ≡ None = λ i p q. n i (omega arith) q in
    ops-patch F (aim_all xs t S) code hs x t (omega arith) (aim_all-below (suc x) b t xs S w.2 x (omega arith) ∙ n x w.0 w.1)
    (ops-patch_all F S xs (patch x t code) hs t (suc x) b w.2 (omega arith) m o)

-- ## Tables

-- A list is the front of another.
abbrev pub Prefix : {X : Type 0} → List X → List X → Type 0
Prefix {X} xs ys = (zs : List X) × (ys ≡ xs ++ zs)

pub prefix_back : {X : Type 0} (xs ys zs : List X) → Prefix xs ys → Prefix ys zs → Prefix xs zs
prefix_back xs ys zs p q = (p.0 ++ q.0, q.1 ∙ ap (λ l. l ++ q.0) p.1 ∙ append_assoc xs p.0 q.0)

pub prefix-self : {X : Type 0} (xs : List X) (x : X) → Prefix xs (xs ++ x ∷ [])
prefix-self xs x = (x ∷ [], refl)

-- Tables at some time: the whole lowering's only go on.
pub record Tabs (F : Fin) (rows : List Row) (names : List ℕ) (opers : List AssignOp) (deepest : ℕ) : Type 0 where
  pub rows_on : Prefix rows F.rows
  pub names-on : Prefix names F.names
  pub opers-on : Prefix opers F.opers
  pub deep : deepest ≤ F.deepest

-- The place of the last entry of a front.
pub prefix-last : {X : Type 0} (xs ys : List X) (x d : X) → Prefix (xs ++ x ∷ []) ys → (length xs < length ys) × (get_or ys (length xs) d ≡ x) × Prefix xs ys
prefix-last {X} xs ys x d p =
    let l = snoc xs x in
    let m : length ys ≡ length (xs ++ x ∷ []) + length p.0 = ap length p.1 ∙ length-append (xs ++ x ∷ []) p.0 in (
      omega arith,
      ap (λ (l : List X). get_or l (length xs) d) p.1 ∙ get_or-append (xs ++ x ∷ []) p.0 d (length xs) (omega arith) ∙ get_or_push xs x d (length xs) refl,
      prefix_back xs (xs ++ x ∷ []) ys (prefix-self xs x) p,
    )

-- All of a state that the whole lowering's code and tables show.
abbrev pub Final : Fin → Aims → Low → (ℕ → Heights) → Type 0
Final F S u hs = Ops F S u.code.held hs × Tabs F u.rows.held u.names.held u.opers.held u.deepest

-- ## One step back

module _ (R : Records) (F : Fin) (S : Aims) where
  -- An operation that is given no target later.
  pub ins : (u : Low) (hs : ℕ → Heights) (o : Op) (p : Position) (h : Heights) → S (at u) ≡ None → expr_of F.rows o ≡ None → Final F S (emitted o p u) (noted (at u) h hs)
      → (layout_of R F).Op' o p h (at u) (at (emitted o p u)) × Final F S u hs
  ins u hs o p h n x f =
      let x₀ : Instr = record { op = o; at = p } in
      let l = ops-less F S u.code.held x₀ (noted (at u) h hs) f.0 in (
        (l.0, l.1 ∙ ap (λ (z : Option ℕ). settled z x₀) n, x, sym (snoc u.code.held x₀), l.2 ∙ rw (eq-eqb (at u) (at u) refl) refl),
        (ops-same F S S u.code.held (noted (at u) h hs) hs (λ i b. refl) (λ i b. rw (ne_eqb i (at u) (λ e. omega arith)) refl) l.3, f.1),
      )

  -- A jump that is given its target later.
  pub hole : (u : Low) (hs : ℕ → Heights) (o : Op) (p : Position) (h : Heights) (t : ℕ) → S (at u) ≡ Some t → expr_of F.rows (aimed t o) ≡ None → Final F S (emitted o p u) (noted (at u) h hs)
      → (layout_of R F).Op' (aimed t o) p h (at u) (at (emitted o p u)) × Final F S u hs
  hole u hs o p h t n x f =
      let x₀ : Instr = record { op = o; at = p } in
      let l = ops-less F S u.code.held x₀ (noted (at u) h hs) f.0 in (
        (l.0, l.1 ∙ ap (λ (z : Option ℕ). settled z x₀) n, x, sym (snoc u.code.held x₀), l.2 ∙ rw (eq-eqb (at u) (at u) refl) refl),
        (ops-same F S S u.code.held (noted (at u) h hs) hs (λ i b. refl) (λ i b. rw (ne_eqb i (at u) (λ e. omega arith)) refl) l.3, f.1),
      )

  -- A residual row and its operation.
  pub row_back : (k n : ℕ) (u : Low) (hs : ℕ → Heights) → S (at u) ≡ None → Final F S (rowed k n u) hs
      → (at u < length F.code) × (instr_at F.code (at u) ≡ record { op = EvalAst (length u.rows.held) true; at = nowhere }) × (suc (at u) ≡ at (rowed k n u))
      × (length u.rows.held < length F.rows) × (get_or F.rows (length u.rows.held) no_row ≡ record { kind = k; number = n }) × (get_or F.heights (at u) no_heights ≡ hs (at u)) × Final F S u hs
  row_back k n u hs q f =
      let x₀ : Instr = record { op = EvalAst (length u.rows.held) true; at = nowhere } in
      let l = ops-less F S u.code.held x₀ hs f.0 in
      let r = prefix-last u.rows.held F.rows (record { kind = k; number = n }) no_row f.1.rows_on in (
        l.0,
        l.1 ∙ ap (λ (z : Option ℕ). settled z x₀) q,
        sym (snoc u.code.held x₀),
        r.0,
        r.1,
        l.2,
        (l.3, record { rows_on = r.2; names-on = f.1.names-on; opers-on = f.1.opers-on; deep = f.1.deep }),
      )

  -- An expression.
  pub exp : (e : Exp) (u : Low) (hs : ℕ → Heights) → S (at u) ≡ None → Final F S (evaluated e u) hs → (layout_of R F).Exp' e.number (at u) (at (evaluated e u)) × Final F S u hs
  exp e u hs q f =
      let b = row_back 1 e.number u hs q f in
      let r = length u.rows.held in
      let t : (ltb r (length F.rows) && eqb (get_or F.rows r no_row).kind 1) ≡ true = rw (lt-ltb r (length F.rows) b.3, b.4) refl in
      let o : expr_of F.rows (EvalAst r true) ≡ Some e.number = rw t (ap (λ (w : Row). Some w.number) b.4) in
      ((r, b.0, ap (λ (z : Instr). z.op) b.1, o, b.2), b.6)

  -- A whole statement's row.
  pub stmt-row : (i : ℕ) (u : Low) (hs : ℕ → Heights) (h : Heights) → S (at u) ≡ None → Final F S (rowed 2 i u) (noted (at u) h hs)
      → (r : ℕ) × ((layout_of R F).Row' r i) × ((layout_of R F).Op' (EvalAst r true) nowhere h (at u) (at (rowed 2 i u))) × Final F S u hs
  stmt-row i u hs h q f =
      let b = row_back 2 i u (noted (at u) h hs) q f in
      let r = length u.rows.held in
      let o : expr_of F.rows (EvalAst r true) ≡ None = rw (lt-ltb r (length F.rows) b.3, b.4) refl in (
        r,
        (b.3, b.4),
        (b.0, b.1, o, b.2, b.5 ∙ rw (eq-eqb (at u) (at u) refl) refl),
        (ops-same F S S u.code.held (noted (at u) h hs) hs (λ i b. refl) (λ i b. rw (ne_eqb i (at u) (λ e. omega arith)) refl) b.6.0, b.6.1),
      )
