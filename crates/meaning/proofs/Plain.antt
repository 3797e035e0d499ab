-- Statements without blocks, other than those that leave a loop: accepted lowering stands.
use Rattle.std.proofs.Common.{◌≡◌, ℕ, suc, ◌-◌, ◌<◌, Bool, true, false, cond, ◌&&◌, eqb, leb, List, [], ◌∷◌, ◌++◌, length, Some, None, Option, sym, refl, ap, ◌∙◌, subst, ap₂, append_assoc, arith, eqb-true, leb-true}
use Rattle.std.proofs.lemmas.Bool.{and_parts}
use Rattle.records.specs.declared.types.Position.{Position}
use Rattle.records.specs.declared.refusals.Refusal.TheVariants.{BadReuse, EvalCall}
use Rattle.records.specs.Tree.{Records, Name, Exp, Oper, name_of, nowhere}
use Rattle.code.specs.declared.ops.Op.{Op}
use Rattle.code.specs.declared.ops.Op.TheVariants.{Unit as UnitOp, StoreLocal, AssignNamed, AssignLocal, DeclareLocal, EvalAst}
use Rattle.code.specs.declared.ops.Row.{Row}
use Rattle.code.specs.declared.ops.AssignOp.{AssignOp}
use Rattle.code.specs.declared.shapes.Lowered.{Lowered}
use Rattle.code.specs.declared.shapes.Lowered.TheVariants.{Value, Empty}
use Rattle.meaning.specs.Reading.{Bytes, same_bytes}
use Rattle.meaning.specs.Agreement.{Heights}
use Rattle.meaning.specs.LowerState.{Low, Pile, Out.ok, M, ret, fail, bind, emit_at, emit, with_names, with_opers, same_name, newest_same}
use Rattle.meaning.specs.Lower.{done, expression, expression_or, statement_row, eval_bytes, oper_row, reuses, storing, declaring, variable, calling, assigned, assigning}
use Rattle.meaning.specs.Compiled.{spelled}
use Rattle.meaning.specs.SetCode.{expr_of}
use Rattle.meaning.proofs.Place.{Scopes, flat, depth, add_name, outside, resolve, resolve_from, Ctx, heights, Layout, Ins, InsAt, ExpAny, OperAny, Assigns, Declares}
use Rattle.meaning.proofs.Lowered.{SpelledName, SpelledOper}
use Rattle.meaning.proofs.Monad.{at, emitted, rowed, evaluated, declared, bind_ok, Sure, run, never, sure-as, sure-emit, sure-put, sure-residual, sure-exp, sure-may, sure-declare, sure-depth, sure-block, sure-resolve}
use Rattle.meaning.proofs.Aims.{Fin, layout_of, noted, Tabs, ins, exp, stmt-row, snoc}
use Rattle.meaning.proofs.Tables.{Dist, Entry, name-ok, name_back, OperEntry, oper-ok, oper-back, spelled-append, newest-spelled}
use Rattle.meaning.proofs.Standing.{AroundOf, around_depth, Here, kept-plain, Result}

-- ## Ends of sequences

-- What an accepted end leaves is what it comes to.
pub ends : {R : Records} {c : Ctx} {κ : Bool} {ns : Scopes} {C : Fin → ℕ → ℕ → Type 0} {s : Low} {hs : ℕ → Heights} {x v : Lowered} {t u : Low}
    → ok v u ≡ ok x t → Result R c κ ns C s hs v u → Result R c κ ns C s hs x t
ends {R} {c} {κ} {ns} {C} {s} {hs} {x} {v} {t} {u} h r =
    let e : v ≡ x = cc in
    let f : u ≡ t = cc in
    subst (λ (w : Low). Result R c κ ns C s hs x w) f (subst (λ (z : Lowered). Result R c κ ns C s hs z u) e r)

-- A part that is accepted, and what follows it.
pub passes : {X Y : Type 0} (k : X → M Y) (a b : X) (u w : Low) (y : Y) (t : Low) → ok a u ≡ ok b w → k b w ≡ ok y t → k a u ≡ ok y t
passes {X} k a b u w y t h g =
    let e : a ≡ b = cc in
    let f : u ≡ w = cc in
    subst (λ (z : X). k z u ≡ ok y t) (sym e) (subst (λ (z : Low). k b z ≡ ok y t) (sym f) g)

pub at-emit : (o : Op) (p : Position) (u : Low) → at (emitted o p u) ≡ suc (at u)
at-emit o p u = snoc u.code.held (record { op = o; at = p })

pub at_row : (k n : ℕ) (u : Low) → at (rowed k n u) ≡ suc (at u)
at_row k n u = snoc u.code.held (record { op = EvalAst (length u.rows.held) true; at = nowhere })

-- ## Names

pub resolve-is : (R : Records) (c : Ctx) (s : Low) (y : Name) → AroundOf R c s → SpelledName R y → newest_same (same_name R) y.label 0 None s.slots.held ≡ resolve y.bytes c.ns
resolve-is R c s y A sp =
    newest-spelled R y.label 0 None s.slots.held
    ∙ ap (λ (l : List Bytes). resolve_from (name_of R y.label).bytes 0 None l) A.slots-are
    ∙ ap (λ (b : Bytes). resolve_from b 0 None (flat c.ns)) (sym sp)

flat-add : (b : Bytes) (ns : Scopes) (top : List Bytes) (rest : Scopes) → ns ≡ top ∷ rest → flat (add_name b ns) ≡ flat ns ++ b ∷ []
flat-add b ns top rest e = subst (λ (z : Scopes). flat (add_name b z) ≡ flat z ++ b ∷ []) (sym e) (sym (append_assoc (flat rest) top (b ∷ [])))

-- The slots with one of this name more.
pub slots-more : (R : Records) (ns : List Bytes) (y : Name) (slots : List ℕ) → SpelledName R y → spelled R slots ≡ ns → spelled R (slots ++ y.label ∷ []) ≡ ns ++ y.bytes ∷ []
slots-more R ns y slots sp e =
    spelled-append R slots (y.label ∷ []) ∙ ap₂ (λ (l : List Bytes) (b : Bytes). l ++ b ∷ []) e (sym sp)

pub name-of : (R : Records) (F : Fin) (n : ℕ) (y : Name) → SpelledName R y → (layout_of R F).Name' n (name_of R y.label).bytes → (layout_of R F).Name' n y.bytes
name-of R F n y sp p = (p.0, p.1 ∙ sym sp)

-- ## Operator rows

pub record OperFacts (R : Records) (o : Option Oper) (names : List ℕ) (opers : List AssignOp) (r : Option ℕ) (names' : List ℕ) (opers' : List AssignOp) : Type 0 where
  pub dist : Dist R names → Dist R names'
  pub back : (F : Fin) (rows : List Row) (d : ℕ) → SpelledOper R o → Tabs F rows names' opers' d → OperAny (layout_of R F) o r × Tabs F rows names opers d

oper-facts : (R : Records) (o : Oper) (l₀ l₁ l₂ : List ℕ) (os ps : List AssignOp) (n m r : ℕ) → Entry R l₀ (name_of R o.name₁.label).bytes n l₁ → Entry R l₁ (name_of R o.name₂.label).bytes m l₂
    → OperEntry os (record { op_assign = o.token₁; op_assign_name = n; op = o.token₂; op_name = m }) r ps → OperFacts R (Some o) l₀ os (Some r) l₂ ps
oper-facts R o l₀ l₁ l₂ os ps n m r p q e =
    record {
      dist = λ d. q.dist (p.dist d);
      back = λ F rows d sp T.
          let c₁ = oper-back R F rows l₂ os ps d r (record { op_assign = o.token₁; op_assign_name = n; op = o.token₂; op_name = m }) e T in
          let c₂ = name_back R F rows l₁ l₂ os d m (name_of R o.name₂.label).bytes q c₁.1 in
          let c₃ = name_back R F rows l₀ l₁ os d n (name_of R o.name₁.label).bytes p c₂.1 in
          let e₁ = c₃.0.1 ∙ sym sp.0 in
          let e₂ = c₂.0.1 ∙ sym sp.1 in
          (c₁.0 ∙ (λ i. record { token₁ = o.token₁; bytes₁ = e₁ i; token₂ = o.token₂; bytes₂ = e₂ i }), c₃.1);
    }

pub oper-row-ok : {Y : Type 0} (R : Records) (o : Option Oper) (k : Option ℕ → M Y) (s t : Low) (y : Y) → bind (oper_row R o) k s ≡ ok y t
    → (r : Option ℕ) × (p : Pile ℕ) × (q : Pile AssignOp) × OperFacts R o s.names.held s.opers.held r p.held q.held × (k r (with_opers q (with_names p s)) ≡ ok y t)
oper-row-ok R None k s t y h = (None, s.names, s.opers, record { dist = λ d. d; back = λ F rows d sp T. (tt, T) }, h)
oper-row-ok R (Some o) k s t y h =
    let b = bind_ok (oper_row R (Some o)) k s t y h in
    let n = name-ok R o.name₁.label _ s b.1 b.0 b.2 in
    let m = name-ok R o.name₂.label _ (with_names n.1 s) b.1 b.0 n.3 in
    let row : AssignOp = record { op_assign = o.token₁; op_assign_name = n.0; op = o.token₂; op_name = m.0 } in
    let r = oper-ok row _ (with_names m.1 s) b.1 b.0 m.3 in
    (Some r.0, m.1, r.1, oper-facts R o s.names.held n.1.held m.1.held s.opers.held r.1.held n.0 m.0 r.0 n.2 m.2 r.2, passes k (Some r.0) b.0 (with_opers r.1 (with_names m.1 s)) b.1 y t r.3 b.3)

-- The operation of an assignment, and its position.
abbrev as_op : Option ℕ → ℕ → Option ℕ → Op
as_op (Some i) n r = AssignLocal i n r
as_op None n r = AssignNamed n r

abbrev as_at : Option ℕ → Position → Position → Position
as_at (Some i) p q = p
as_at None p q = q

sure-assigned : (R : Records) (slot : Option ℕ) (n : ℕ) (r : Option ℕ) (p q : Position) (s : Low) → Sure (assigned slot n r p q) s tt (emitted (as_op slot n r) (as_at slot p q) s)
sure-assigned R (Some i) n r p q s = sure-put (AssignLocal i n r) p s
sure-assigned R None n r p q s = sure-put (AssignNamed n r) q s

as_none : (rows : List Row) (slot : Option ℕ) (n : ℕ) (r : Option ℕ) → expr_of rows (as_op slot n r) ≡ None
as_none rows (Some i) n r = refl
as_none rows None n r = refl

as-assigns : (P : Layout) (slot : Option ℕ) (n : ℕ) (r : Option ℕ) (p q : Position) (c : Ctx) (a b : ℕ) → InsAt P (as_op slot n r) (as_at slot p q) 1 c a b → Assigns P slot n r p q c a b
as-assigns P (Some i) n r p q c a b h = h
as-assigns P None n r p q c a b h = h

-- ## Statements

module _ (R : Records) (c : Ctx) (s : Low) (hs : ℕ → Heights) (x : Lowered) (t : Low) (A : Here R c s) where
  pub good-noop : ret Empty s ≡ ok x t → Result R c false c.ns (λ F a b. a ≡ b) s hs x t
  good-noop h = ends h (record { highs = hs; kind = refl; new = []; alone = λ z. refl; kept = kept-plain R c.ns s s A.around.slots-are refl refl refl refl refl (omega arith) (λ d. d); back = λ F S q f. (refl, f) })

  pub good-expr : (e : Exp) → bind (expression e) (λ _. ret Value) s ≡ ok x t → Result R c true c.ns (λ F a b. (layout_of R F).Exp' e.number a b) s hs x t
  good-expr e h =
      let l = at_row 1 e.number s in
      ends (run (sure-exp e s) _ h)
      (record {
        highs = hs;
        kind = refl;
        new = [];
        alone = λ z. refl;
        kept = kept-plain R c.ns s (evaluated e s) A.around.slots-are refl refl refl refl refl (omega arith) (λ d. d);
        back = λ F S q f. exp R F S e s hs (q (at s) (omega arith) (omega arith)) f;
      })

  pub good-row : (i : ℕ) → statement_row i s ≡ ok x t → Result R c true c.ns (λ F a b. (r : ℕ) × (layout_of R F).Row' r i × Ins (layout_of R F) (EvalAst r true) 0 c a b) s hs x t
  good-row i h =
      let l = at_row 2 i s in
      ends (run (sure-residual 2 i s) _ h)
      (record {
        highs = noted (at s) (heights 0 c) hs;
        kind = refl;
        new = [];
        alone = λ z. refl;
        kept = kept-plain R c.ns s (rowed 2 i s) A.around.slots-are refl refl refl refl refl (omega arith) (λ d. d);
        back = λ F S q f. let b = stmt-row R F S i s hs (heights 0 c) (q (at s) (omega arith) (omega arith)) f in ((b.0, b.1, b.2), b.3);
      })

  pub good-call : (y : Name) (i : ℕ) → calling R y i s ≡ ok x t → Result R c true c.ns (λ F a b. (r : ℕ) × (layout_of R F).Row' r i × Ins (layout_of R F) (EvalAst r true) 0 c a b) s hs x t
  good-call y i h = go (same_bytes (name_of R y.label).bytes eval_bytes) h
    where
      go : (b : Bool) → cond b (fail EvalCall) (statement_row i) s ≡ ok x t → Result R c true c.ns (λ F a b. (r : ℕ) × (layout_of R F).Row' r i × Ins (layout_of R F) (EvalAst r true) 0 c a b) s hs x t
      go true f = never f
      go false f = good-row i f

  -- An end of the script or a throw.
  pub good-end : (o : Option Exp) (last : Op) (p : Position) → ((rows : List Row) → expr_of rows last ≡ None) → bind (expression_or o) (λ _. bind (emit_at last p) (λ _. ret Empty)) s ≡ ok x t
      → Result R c false c.ns (λ F a b. (m n : ℕ) × ExpAny (layout_of R F) o c a m × InsAt (layout_of R F) last p 1 c m n) s hs x t
  good-end None last p e h =
      let s₁ = emitted UnitOp nowhere s in
      let s₂ = emitted last p s₁ in
      let l₁ = at-emit UnitOp nowhere s in
      let l₂ = at-emit last p s₁ in
      ends (run (sure-emit last p s₁) _ (run (sure-put UnitOp nowhere s) _ h))
      (record {
        highs = noted (at s₁) (heights 1 c) (noted (at s) (heights 0 c) hs);
        kind = refl;
        new = [];
        alone = λ z. refl;
        kept = kept-plain R c.ns s s₂ A.around.slots-are refl refl refl refl refl (omega arith) (λ d. d);
        back = λ F S q f.
            let b₂ = ins R F S s₁ (noted (at s) (heights 0 c) hs) last p (heights 1 c) (q (at s₁) (omega arith) (omega arith)) (e F.rows) f in
            let b₁ = ins R F S s hs UnitOp nowhere (heights 0 c) (q (at s) (omega arith) (omega arith)) refl b₂.1 in
            ((at s₁, at s₂, b₁.0, b₂.0), b₁.1);
      })
  good-end (Some o) last p e h =
      let s₁ = evaluated o s in
      let s₂ = emitted last p s₁ in
      let l₁ = at_row 1 o.number s in
      let l₂ = at-emit last p s₁ in
      ends (run (sure-emit last p s₁) _ (run (sure-exp o s) _ h))
      (record {
        highs = noted (at s₁) (heights 1 c) hs;
        kind = refl;
        new = [];
        alone = λ z. refl;
        kept = kept-plain R c.ns s s₂ A.around.slots-are refl refl refl refl refl (omega arith) (λ d. d);
        back = λ F S q f.
            let b₂ = ins R F S s₁ hs last p (heights 1 c) (q (at s₁) (omega arith) (omega arith)) (e F.rows) f in
            let b₁ = exp R F S o s hs (q (at s) (omega arith) (omega arith)) b₂.1 in
            ((at s₁, at s₂, b₁.0, b₂.0), b₁.1);
      })

  -- A declaration with a slot of its own.
  good_new : (k : Bool) (y : Name) (e : Exp) → SpelledName R y → bind (declaring R y k) (λ _. ret Empty) (evaluated e s) ≡ ok x t
      → Result R c false (add_name y.bytes c.ns) (λ F a b. (m : ℕ) × (layout_of R F).Exp' e.number a m × Declares (layout_of R F) true k y.bytes c m b) s hs x t
  good_new k y e sp h =
      let s₁ = evaluated e s in
      let b = bind_ok (declaring R y k) _ s₁ t x h in
      let n = name-ok R y.label _ s₁ b.1 b.0 b.2 in
      let p = n.1 in
      let s₂ = declared y.label (with_names p s₁) in
      let g : Bool = k && eqb s.block.level 0 in
      let o : Op = DeclareLocal n.0 k g in
      let s₃ = emitted o nowhere s₂ in
      let h₁ = (sure-put o nowhere s₂).only b.0 b.1 (run (sure-block s₂) _ (run (sure-declare y.label (with_names p s₁)) _ n.3)) in
      let l₁ = at_row 1 e.number s in
      let l₂ = at-emit o nowhere s₂ in
      let ld = around_depth R c s.slots.held s.iters s.handlers s.loops A.around in
      let ls = snoc s.slots.held y.label in
      let slots : spelled R (s.slots.held ++ y.label ∷ []) ≡ flat (add_name y.bytes c.ns) =
      slots-more R (flat c.ns) y s.slots.held sp A.around.slots-are ∙ sym (flat-add y.bytes c.ns A.top A.rest A.shape) in
      ends (passes (λ _. ret Empty) tt b.0 s₃ b.1 x t h₁ b.3)
      (record {
        highs = noted (at s₁) (heights 1 c) hs;
        kind = refl;
        new = [];
        alone = λ z. refl;
        kept = kept-plain R (add_name y.bytes c.ns) s s₃ slots refl refl refl refl refl (omega arith) n.2.dist;
        back = λ F S q f.
            let b₂ = ins R F S s₂ hs o nowhere (heights 1 c) (q (at s₂) (omega arith) (omega arith)) refl f in
            let T = b₂.1.1 in
            let deep = T.deep in
            let room : depth c.ns < F.deepest = omega arith in
            let T₁ : Tabs F s₁.rows.held p.held s.opers.held s.deepest = record { rows_on = T.rows_on; names-on = T.names-on; opers-on = T.opers-on; deep = omega arith } in
            let nb = name_back R F s₁.rows.held s.names.held p.held s.opers.held s.deepest n.0 (name_of R y.label).bytes n.2 T₁ in
            let b₁ = exp R F S e s hs (q (at s) (omega arith) (omega arith)) (b₂.1.0, nb.1) in
            ((at s₁, b₁.0, (n.0, g, name-of R F n.0 y sp nb.0, room, b₂.0)), b₁.1);
      })

  -- A declaration that takes the newest slot of its name.
  good-store : (k : Bool) (y : Name) (e : Exp) (r : ℕ) → SpelledName R y → bind (storing R y r k) (λ _. ret Empty) (evaluated e s) ≡ ok x t
      → Result R c false c.ns (λ F a b. (m : ℕ) × (layout_of R F).Exp' e.number a m × Declares (layout_of R F) false k y.bytes c m b) s hs x t
  good-store k y e r sp h =
      let s₁ = evaluated e s in
      let b = bind_ok (storing R y r k) _ s₁ t x h in
      let h₁ = run (sure-as (sure-resolve R y.label s₁) (resolve-is R c s y A.around sp) refl) _ (run (sure-block s₁) _ (run (sure-depth s₁) _ b.2)) in
      go b.0 b.1 b.3 (resolve y.bytes c.ns) refl h₁
    where
      s₁ : Low
      s₁ = evaluated e s

      live : ℕ
      live = length s.slots.held

      Goal : Type 0
      Goal = Result R c false c.ns (λ F a b. (m : ℕ) × (layout_of R F).Exp' e.number a m × Declares (layout_of R F) false k y.bytes c m b) s hs x t

      stored : (z : Unit {0}) (u : Low) → ret Empty u ≡ ok x t → (i : ℕ) → resolve y.bytes c.ns ≡ Some i → (g : Bool) → (leb r live && (eqb i (live - r) && leb s.block.base i)) ≡ g
          → cond g (done (emit (StoreLocal (live - r) k))) (fail BadReuse) s₁ ≡ ok z u → Goal
      stored z u w i e₁ true e₂ f =
          let p = and_parts (eqb i (live - r)) (leb s.block.base i) (and_parts (leb r live) (eqb i (live - r) && leb s.block.base i) e₂).1 in
          let e₃ = eqb-true i (live - r) p.0 in
          let e₄ = leb-true s.block.base i p.1 in
          let base = A.base in
          let out : outside c.ns ≡ depth A.rest = ap outside A.shape in
          let o : Op = StoreLocal (live - r) k in
          let s₂ = emitted o nowhere s₁ in
          let l₁ = at_row 1 e.number s in
          let l₂ = at-emit o nowhere s₁ in
          ends (passes (λ _. ret Empty) tt z s₂ u x t ((sure-put o nowhere s₁).only z u f) w)
          (record {
            highs = noted (at s₁) (heights 1 c) hs;
            kind = refl;
            new = [];
            alone = λ z. refl;
            kept = kept-plain R c.ns s s₂ A.around.slots-are refl refl refl refl refl (omega arith) (λ d. d);
            back = λ F S q f.
                let b₂ = ins R F S s₁ hs o nowhere (heights 1 c) (q (at s₁) (omega arith) (omega arith)) refl f in
                let b₁ = exp R F S e s hs (q (at s) (omega arith) (omega arith)) b₂.1 in
                ((at s₁, b₁.0, (live - r, e₁ ∙ ap Some e₃, omega arith, b₂.0)), b₁.1);
          })
      stored z u w i e₁ false e₂ f = never f

      go : (z : Unit {0}) (u : Low) → ret Empty u ≡ ok x t → (o : Option ℕ) → resolve y.bytes c.ns ≡ o
          → cond (reuses live r s.block o) (done (emit (StoreLocal (live - r) k))) (fail BadReuse) s₁ ≡ ok z u → Goal
      go z u w None e₁ f = never f
      go z u w (Some i) e₁ f = stored z u w i e₁ (leb r live && (eqb i (live - r) && leb s.block.base i)) refl f

  pub good-var : (k : Bool) (y : Name) (e : Exp) (r : ℕ) → SpelledName R y → variable R k y e r s ≡ ok x t
      → Result R c false (cond (eqb r 0) (add_name y.bytes c.ns) c.ns) (λ F a b. (m : ℕ) × (layout_of R F).Exp' e.number a m × Declares (layout_of R F) (eqb r 0) k y.bytes c m b) s hs x t
  good-var k y e r sp h = go (eqb r 0) (run (sure-exp e s) _ (run (sure-may s) _ h))
    where
      go : (d : Bool) → bind (cond d (declaring R y k) (storing R y r k)) (λ _. ret Empty) (evaluated e s) ≡ ok x t
          → Result R c false (cond d (add_name y.bytes c.ns) c.ns) (λ F a b. (m : ℕ) × (layout_of R F).Exp' e.number a m × Declares (layout_of R F) d k y.bytes c m b) s hs x t
      go true f = good_new k y e sp f
      go false f = good-store k y e r sp f

  pub good-assign : (y : Name) (e : Exp) (o : Option Oper) (p q : Position) → SpelledName R y → SpelledOper R o → assigning R y e o p q s ≡ ok x t
      → Result R c false c.ns (λ F a b. (n m : ℕ) × (r : Option ℕ) × (layout_of R F).Name' n y.bytes × (layout_of R F).Exp' e.number a m × OperAny (layout_of R F) o r × Assigns (layout_of R F) (resolve y.bytes c.ns) n r p q c m b) s hs x t
  good-assign y e o p q sp so h =
      let slot = resolve y.bytes c.ns in
      let h₁ = run (sure-as (sure-resolve R y.label s) (resolve-is R c s y A.around sp) refl) _ h in
      let n = name-ok R y.label _ s t x h₁ in
      let s₁ = with_names n.1 s in
      let s₂ = evaluated e s₁ in
      let r = oper-row-ok R o _ s₂ t x (run (sure-exp e s₁) _ n.3) in
      let s₃ = with_opers r.2 (with_names r.1 s₂) in
      let op = as_op slot n.0 r.0 in
      let s₄ = emitted op (as_at slot p q) s₃ in
      let l₁ = at_row 1 e.number s₁ in
      let l₂ = at-emit op (as_at slot p q) s₃ in
      ends (run (sure-assigned R slot n.0 r.0 p q s₃) _ r.4)
      (record {
        highs = noted (at s₂) (heights 1 c) hs;
        kind = refl;
        new = [];
        alone = λ z. refl;
        kept = kept-plain R c.ns s s₄ A.around.slots-are refl refl refl refl refl (omega arith) (λ d. r.3.dist (n.2.dist d));
        back = λ F S w f.
            let b₄ = ins R F S s₃ hs op (as_at slot p q) (heights 1 c) (w (at s₃) (omega arith) (omega arith)) (as_none F.rows slot n.0 r.0) f in
            let b₃ = r.3.back F s₂.rows.held s.deepest so b₄.1.1 in
            let b₂ = exp R F S e s₁ hs (w (at s) (omega arith) (omega arith)) (b₄.1.0, b₃.1) in
            let b₁ = name_back R F s.rows.held s.names.held n.1.held s.opers.held s.deepest n.0 (name_of R y.label).bytes n.2 b₂.1.1 in
            ((n.0, at s₂, r.0, name-of R F n.0 y sp b₁.0, b₂.0, b₃.0, as-assigns (layout_of R F) slot n.0 r.0 p q c (at s₃) (at s₄) b₄.0), (b₂.1.0, b₁.1));
      })
