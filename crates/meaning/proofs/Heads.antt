-- The simulation of one statement by its head, given that of its body and of its branch.
use Rattle.std.proofs.Common.{◌≡◌, ℕ, suc, max, Bool, true, false, cond, ◌||◌, eqb, ltb, List, [], ◌∷◌, ◌++◌, length, take, set, Some, None, Option, sym, refl, ap, ◌∙◌, subst, ap₂, inl, inr, arith, lt-ltb}
use borrow.Author.Tests.{clash}
use Rattle.records.specs.declared.types.Position.{Position}
use Rattle.records.specs.Tree.{nowhere, Name, Exp, Oper, Head.block, Head.try, Head.for, Head.if, Head.while, Head.do_loop, Head.break, Head.return, Head.throw}
use Rattle.code.specs.declared.ops.Row.{Row}
use Rattle.code.specs.declared.ops.Op.TheVariants.{EvalAst, AssignLocal}
use Rattle.code.specs.declared.talk.Slot.{Slot}
use Rattle.code.specs.declared.talk.Handler.{Handler}
use Rattle.code.specs.declared.talk.Question.TheVariants.{Statement, Combine, Assign, Iterate, Next}
use Rattle.code.specs.declared.talk.Purpose.TheVariants.{Push, Store, Assigned, Open, Advance}
use Rattle.meaning.specs.Machine.{Effect, Effect.next, Effect.ask, Effect.fault as faults, Effect.stuck, slot_at, slotted, evaluating, combines, overwrites}
use Rattle.meaning.specs.Throws.{keep, caught}
use Rattle.meaning.specs.Calls.{State.ready, after}
use Rattle.meaning.specs.Reading.{Bytes, Sign, sign_of, Ask.statement, Ask.combine, Ask.assign as assign_to, Ask.iterate, Ask.next as next_item, Cell, Scope, no_scope, seek, declares, sets_inner, World, truth, gotten, reading}
use Rattle.meaning.specs.Run.{St, Out, Out.value, Out.broke, Out.returned, Out.fault, bind_g, bind_v, bind_n, opened, declared, closing, round_on, rounds, in_for, Running, scoped, naming, signed, setting, combining, assigning, endless, evaluate_any, while_round, run_head, asks}
use Rattle.meaning.specs.Fed.{conf, sign_of_row}
use Rattle.meaning.proofs.Place.{Scopes, depth, add_name, resolve, catch_scope, Ctx, heights, in_scopes, in_try_code, up_iters, deeper_loop, ExpAny, OperAny, NameAny, Assigns, Declares, Tests, Exits, CodeHead, while_loop, for_loop}
use Rattle.meaning.proofs.Rel.{Env, Named, Rel, rel-length, rel-scopes, opens, closes, declared-rel, Resolved, resolves, assigns-rel, reused, shares, introduces, forgets, stored}
use Rattle.meaning.proofs.Hear.{Frame, mach, around, Ev, Ins, hop, Suits}
use Rattle.meaning.proofs.Exits.{tossed, layout, Done, Low, Meets, level, act_to, act, op, meets, done, dropped, glued, unwound, thrown, asking, answered, advanced, evaluated, tested, sequel, closed, outer, counted, led}
use Rattle.meaning.proofs.Loops.{here, loop, loop_for, more_its, more_hands, Space, low-under, low-deeper, low-loop, low-for, no-value-V, no-value-G, no-value-end, with_name, NameRoom, stepped, kept_all, looped, looped_for, breaks, breaks_with, doing, unhand, tried}

-- Wherever a block's code stands, the fed player follows the block.
abbrev pub Does : Env → (Ctx → ℕ → ℕ → Type 0) → Bool → ℕ → Running → Type 0
Does E B κ dp body =
    (c : Ctx) (bl cl F : Frame) (a b n : ℕ) (σ : St) (live : List Slot) → B c a b → Low c.loop c.its c.hands F bl cl c.ns → Space dp F → Rel E F.vars c.ns σ.env live
    → Ev E (Done E (here c.loop bl cl F n) true c.ns c.ns κ b (scoped body (around F) n σ)) (conf (ready a (mach E [] F live)) σ.world)

-- A block: where its code stands, whether it leaves a value, how deep it nests, how it runs, and that the player follows.
pub record Blk (E : Env) : Type 1 where
  pub code : Ctx → ℕ → ℕ → Type 0
  pub leaves : Bool
  pub nests : ℕ
  pub runs : Running
  pub does : Does E code leaves nests runs

-- The goal of a statement in the list of statements of a scope.
module _ (E : Env) (c : Ctx) (i : List Bytes) (r : Scopes) (bl cl F : Frame) (n a b : ℕ) (σ : St) (live : List Slot) where
  abbrev pub Goal : Scopes → Bool → Out → Type 0
  Goal ns κ o = Ev E (Done E (here c.loop bl cl F n) true (i ∷ r) ns κ b o) (conf (ready a (mach E [] F live)) σ.world)

-- No code, for heads without blocks.
abbrev pub no_code : Ctx → ℕ → ℕ → Type 0
no_code c a b = ⊥

no-done : {A : Type 0} → false ≡ true → A
no-done e = absurd (clash e)

module _ (E : Env) where
  statement-suits : (i : ℕ) → Suits E (Statement i) Push
  statement-suits i = record { values = λ h. refl; dones = refl }

  iterate-suits : (h : ℕ) → Suits E (Iterate h) Open
  iterate-suits h = record { values = λ v. refl; dones = refl }

  next-suits : (h t : ℕ) → Suits E (Next h) (Advance t)
  next-suits h t = record { values = λ v. refl; dones = refl }

  combine-suits : (q i o v : ℕ) → Suits E (Combine q o v) (Store i)
  combine-suits q i o v = record { values = λ h. refl; dones = refl }

  assign-suits : (x : ℕ) (o : Option ℕ) (v : ℕ) → Suits E (Assign x o v) Assigned
  assign-suits x o v = record { values = λ h. refl; dones = refl }

  -- The operator row of an assignment says its operator.
  signs : (o : Option Oper) (q : Option ℕ) → OperAny (layout E) o q → sign_of_row E.T q ≡ signed o
  signs None None z = refl
  signs None (Some q) z = absurd z
  signs (Some o) None z = absurd z
  signs (Some o) (Some q) z = ap {B = Option Sign} Some z

module _ (E : Env) (c : Ctx) (i : List Bytes) (r : Scopes) (bl cl F : Frame) (n : ℕ) (lo : Low c.loop c.its c.hands F bl cl r) where
  -- ## Expressions and declarations

  any_value : {a m b : ℕ} {ns : Scopes} {κ : Bool} {σ : St} {live : List Slot} {k : ℕ → St → Out} (e : Option Exp) → ExpAny (layout E) e (in_scopes (i ∷ r) c) a m → Rel E F.vars (i ∷ r) σ.env live
      → ((v : ℕ) (σ' : St) (live' : List Slot) → Rel E F.vars (i ∷ r) σ'.env live' → Ev E (Done E (here c.loop bl cl F n) true (i ∷ r) ns κ b (k v σ')) (conf (ready m (mach E (v ∷ []) F live')) σ'.world))
      → Ev E (Done E (here c.loop bl cl F n) true (i ∷ r) ns κ b (bind_g (evaluate_any E.W.reading e (around F) σ) k)) (conf (ready a (mach E [] F live)) σ.world)
  any_value {σ} {live} None z h f = act (meets (in_scopes (i ∷ r) c) lo h) refl (op z) (f 0 σ live h)
  any_value (Some e) z h f = evaluated e.number z h f

  declaring : {m b : ℕ} (k : Bool) (x : Bytes) (t : Bool) (v : ℕ) (σ : St) (live : List Slot) → Declares (layout E) t k x (in_scopes (i ∷ r) c) m b → Rel E F.vars (i ∷ r) σ.env live
      → Ev E (Done E (here c.loop bl cl F n) true (i ∷ r) (cond t (add_name x (i ∷ r)) (i ∷ r)) false b (value 0 (declared x v k σ))) (conf (ready m (mach E (v ∷ []) F live)) σ.world)
  declaring k x true v σ live z h =
      let new : Slot = record { name = z.0; handle = v; constant = k } in
      act_to (next (mach E [] F (live ++ new ∷ []))) (meets (in_scopes (i ∷ r) c) lo h) refl (op z.4) (ap (λ (t : Bool). cond t (next (mach E [] F (live ++ new ∷ []))) stuck) (lt-ltb (length live) E.room (let e = rel-length E h in let g = z.3 in omega arith)))
      (done (live ++ new ∷ [], refl, declared-rel E z.0 x v k z.2 h, refl))
  declaring k x false v σ live z h =
      let s = reused E x v k z.0 z.1 z.2 lo.base h in
      act_to (next (mach E [] F (set live z.0 (stored v k s.0)))) (meets (in_scopes (i ∷ r) c) lo h) refl (op z.3) (ap (λ (o : Option Slot). slotted o (λ u. next (mach E [] F (set live z.0 (stored v k u))))) s.1)
      (done (set live z.0 (stored v k s.0), refl, s.2, refl))

  -- A whole statement is asked.
  pub asked-whole : (a b j q : ℕ) (σ : St) (live : List Slot) → (layout E).Row' q j → Ins E (EvalAst q true) nowhere (heights 0 (in_scopes (i ∷ r) c)) a b → Rel E F.vars (i ∷ r) σ.env live
      → Goal E c i r bl cl F n a b σ live (i ∷ r) true (bind_g (gotten (asks (statement j) (around F) σ)) value)
  asked-whole a b j q σ live w z h =
      act_to (ask (Statement j) Push (mach E [] F live)) (meets (in_scopes (i ∷ r) c) lo h) refl z
      (ap₂ (λ (t : Bool) (u : Row). cond t (evaluating u (mach E [] F live)) stuck) (lt-ltb q (length E.rows) w.0) w.1)
      (answered (λ ss l k. k) (asking (Statement j) Push (statement j) (statement-suits E j) refl h)
      (λ v σ' live' e h'. hop z.to (done (live', refl, h', tt)))
      (λ σ' live' e h'. no-done e))

  -- ## An assignment
  assigned : (m b : ℕ) (x : Bytes) (o : Option Oper) (d : ℕ) (q : Option ℕ) (at mark : Position) (v : ℕ) (σ : St) (live : List Slot) (s : Option ℕ) → resolve x (i ∷ r) ≡ s → Named E d x → OperAny (layout E) o q → Assigns (layout E) s d q at mark (in_scopes (i ∷ r) c) m b → Resolved E s x σ.env live → Rel E F.vars (i ∷ r) σ.env live
      → Ev E (Done E (here c.loop bl cl F n) true (i ∷ r) (i ∷ r) false b (assigning (seek x σ.env) o x v at (around F) σ)) (conf (ready m (mach E (v ∷ []) F live)) σ.world)
  assigned m b x o d q at mark v σ live None e nm ov z g h =
      subst (λ (y : Option Cell). Ev E (Done E (here c.loop bl cl F n) true (i ∷ r) (i ∷ r) false b (assigning y o x v at (around F) σ)) (conf (ready m (mach E (v ∷ []) F live)) σ.world)) (sym g)
      (act (meets (in_scopes (i ∷ r) c) lo h) refl (op z)
      (answered (λ ss l k. k) (asking (Assign d q v) Assigned (assign_to x (signed o) v) (assign-suits E d q v) (ap₂ (λ (y : Bytes) (u : Option Sign). assign_to y u v) nm.1 (signs E o q ov)) h)
      (λ u σ' live' e h'. no-done e)
      (λ σ' live' e h'. hop z.1 (done (live', refl, h', refl)))))
  assigned m b x o d q at mark v σ live (Some j) e nm ov z g h =
      subst (λ (y : Option Cell). Ev E (Done E (here c.loop bl cl F n) true (i ∷ r) (i ∷ r) false b (assigning y o x v at (around F) σ)) (conf (ready m (mach E (v ∷ []) F live)) σ.world)) (sym g.2)
      (go g.0.constant refl)
    where
      mt : Meets (in_scopes (i ∷ r) c) F.its F.hands live
      mt = meets (in_scopes (i ∷ r) c) lo h

      exec-is : (t : Bool) → g.0.constant ≡ t → slotted (slot_at j live) (λ u. cond u.constant (faults 4 at (mach E [] F live)) (combines j q u v (mach E [] F live))) ≡ cond t (faults 4 at (mach E [] F live)) (combines j q g.0 v (mach E [] F live))
      exec-is t w = ap (λ (y : Option Slot). slotted y (λ u. cond u.constant (faults 4 at (mach E [] F live)) (combines j q u v (mach E [] F live)))) g.1 ∙ ap (λ (y : Bool). cond y (faults 4 at (mach E [] F live)) (combines j q g.0 v (mach E [] F live))) w

      over-is : (u : ℕ) (l : List Slot) (y : Slot) → slot_at j l ≡ Some y → overwrites j u (mach E [] F l) ≡ next (mach E [] F (set l j (record { name = y.name; handle = u; constant = y.constant })))
      over-is u l y w = ap (λ (o : Option Slot). slotted o (λ k. next (mach E [] F (set l j (record { name = k.name; handle = u; constant = k.constant }))))) w

      combined : (o : Option Oper) (q : Option ℕ) → OperAny (layout E) o q → g.0.constant ≡ false → slotted (slot_at j live) (λ u. cond u.constant (faults 4 at (mach E [] F live)) (combines j q u v (mach E [] F live))) ≡ combines j q g.0 v (mach E [] F live) → Ins E (AssignLocal j d q) at (heights 1 (in_scopes (i ∷ r) c)) m b
          → Ev E (Done E (here c.loop bl cl F n) true (i ∷ r) (i ∷ r) false b (combining o x v (record { handle = g.0.handle; constant = g.0.constant }) (around F) σ)) (conf (ready m (mach E (v ∷ []) F live)) σ.world)
      combined None None ov w y k =
          act_to (next (mach E [] F (set live j (record { name = g.0.name; handle = v; constant = g.0.constant })))) mt refl k (y ∙ over-is v live g.0 g.1) (done (_, refl, assigns-rel E x v j g.0 e g.1 w h, refl))
      combined None (Some p) ov w y k = absurd ov
      combined (Some p) None ov w y k = absurd ov
      combined (Some p) (Some t) ov w y k =
          let h₁ : Rel E (j ∷ F.vars) (i ∷ r) σ.env live = record { runs = h.runs; firm = ((g.0, g.1, w), h.firm) } in
          act_to (ask (Combine t g.0.handle v) (Store j) (mach E [] F live)) mt refl k y
          (answered (λ ss l f. forgets E 1 (j ∷ F.vars) refl f) (asking (Combine t g.0.handle v) (Store j) (combine (sign_of p) g.0.handle v) (combine-suits E t j g.0.handle v) (ap (λ (u : Sign). combine u g.0.handle v) ov) h₁)
          (λ u σ' live' z h'.
          let f = h'.firm.0 in
          subst (λ (y : Effect). Ev E (Done E (here c.loop bl cl F n) true (i ∷ r) (i ∷ r) false b (setting x u σ')) (conf (after y m) σ'.world)) (sym (over-is u live' f.0 f.1))
          (hop k.to (done (_, refl, assigns-rel E x u j f.0 e f.1 f.2 (forgets E 1 (j ∷ F.vars) refl h'), refl))))
          (λ σ' live' z h'. no-done z))

      go : (t : Bool) → g.0.constant ≡ t
          → Ev E (Done E (here c.loop bl cl F n) true (i ∷ r) (i ∷ r) false b (cond t (fault 4 at σ) (combining o x v (record { handle = g.0.handle; constant = g.0.constant }) (around F) σ))) (conf (ready m (mach E (v ∷ []) F live)) σ.world)
      go true w = act_to (faults 4 at (mach E [] F live)) mt refl (op z) (exec-is true w) (thrown [] live h refl)
      go false w = combined o q ov w (exec-is false w) (op z)

  -- ## The plain statements
  pub sim-noop : (a b : ℕ) (σ : St) (live : List Slot) → a ≡ b → Rel E F.vars (i ∷ r) σ.env live → Goal E c i r bl cl F n a b σ live (i ∷ r) false (value 0 σ)
  sim-noop a b σ live z h = hop z (done (live, refl, h, refl))

  pub sim-var : (k : Bool) (x : Name) (e : Exp) (t : ℕ) (a b m : ℕ) (σ : St) (live : List Slot) → (layout E).Exp' e.number a m → Declares (layout E) (eqb t 0) k x.bytes (in_scopes (i ∷ r) c) m b → Rel E F.vars (i ∷ r) σ.env live
      → Goal E c i r bl cl F n a b σ live (cond (eqb t 0) (add_name x.bytes (i ∷ r)) (i ∷ r)) false (bind_g (reading seek sets_inner (E.W.reading e.number) (around F) σ) (λ v σ'. value 0 (declared x.bytes v k σ')))
  sim-var k x e t a b m σ live z z' h = evaluated e.number z h (λ v σ' live' h'. declaring k x.bytes (eqb t 0) v σ' live' z' h')

  pub sim-expr : (e : Exp) (a b : ℕ) (σ : St) (live : List Slot) → (layout E).Exp' e.number a b → Rel E F.vars (i ∷ r) σ.env live → Goal E c i r bl cl F n a b σ live (i ∷ r) true (bind_g (reading seek sets_inner (E.W.reading e.number) (around F) σ) value)
  sim-expr e a b σ live z h = evaluated e.number z h (λ v σ' live' h'. done (live', refl, h', tt))

  pub sim-assign : (x : Name) (e : Exp) (o : Option Oper) (at mark : Position) (a b d m : ℕ) (q : Option ℕ) (σ : St) (live : List Slot) → Named E d x.bytes → (layout E).Exp' e.number a m → OperAny (layout E) o q → Assigns (layout E) (resolve x.bytes (i ∷ r)) d q at mark (in_scopes (i ∷ r) c) m b → Rel E F.vars (i ∷ r) σ.env live
      → Goal E c i r bl cl F n a b σ live (i ∷ r) false (bind_g (reading seek sets_inner (E.W.reading e.number) (around F) σ) (λ v σ'. assigning (seek x.bytes σ'.env) o x.bytes v at (around F) σ'))
  sim-assign x e o at mark a b d m q σ live nm z ov z' h = evaluated e.number z h (λ v σ' live' h'. assigned m b x.bytes o d q at mark v σ' live' (resolve x.bytes (i ∷ r)) refl nm ov z' (resolves E x.bytes h') h')

  pub sim-break : (e : Option Exp) (a b : ℕ) (σ : St) (live : List Slot) → CodeHead (layout E) (break e) no_code false no_code false false (in_scopes (i ∷ r) c) a b → Rel E F.vars (i ∷ r) σ.env live → Goal E c i r bl cl F n a b σ live (i ∷ r) false (bind_g (evaluate_any E.W.reading e (around F) σ) broke)
  sim-break None a b σ live z h = breaks c c.loop a z lo h
  sim-break (Some e) a b σ live z h = breaks_with c c.loop e a z lo h

  pub sim-return : (e : Option Exp) (a b : ℕ) (σ : St) (live : List Slot) → CodeHead (layout E) (return e) no_code false no_code false false (in_scopes (i ∷ r) c) a b → Rel E F.vars (i ∷ r) σ.env live → Goal E c i r bl cl F n a b σ live (i ∷ r) false (bind_g (evaluate_any E.W.reading e (around F) σ) returned)
  sim-return e a b σ live z h = any_value e z.2 h (λ u σ' live' h'. act (meets (in_scopes (i ∷ r) c) lo h') refl (op z.3) (done refl))

  pub sim-throw : (e : Option Exp) (at : Position) (a b : ℕ) (σ : St) (live : List Slot) → CodeHead (layout E) (throw e at) no_code false no_code false false (in_scopes (i ∷ r) c) a b → Rel E F.vars (i ∷ r) σ.env live → Goal E c i r bl cl F n a b σ live (i ∷ r) false (bind_g (evaluate_any E.W.reading e (around F) σ) (λ u σ'. fault u at σ'))
  sim-throw e at a b σ live z h = any_value e z.2 h (λ u σ' live' h'. act (meets (in_scopes (i ∷ r) c) lo h') refl (op z.3) (thrown [] live' h' refl))

  -- ## Statements with blocks
  module _ (B C : Blk E) (v : Bool) where
    pub sim-block : (a b : ℕ) (σ : St) (live : List Slot) → CodeHead (layout E) block B.code B.leaves C.code C.leaves v (in_scopes (i ∷ r) c) a b → Space (max B.nests C.nests) F → Rel E F.vars (i ∷ r) σ.env live → Goal E c i r bl cl F n a b σ live (i ∷ r) B.leaves (scoped B.runs (around F) n σ)
    sim-block a b σ live z sp h = B.does (in_scopes (i ∷ r) c) bl cl F a b n σ live z (low-under lo) (record { rh = (let u = sp.rh in omega arith); ri = (let u = sp.ri in omega arith) }) h

    pub sim-if : (e : Exp) (a b : ℕ) (σ : St) (live : List Slot) → CodeHead (layout E) (if e) B.code B.leaves C.code C.leaves v (in_scopes (i ∷ r) c) a b → Space (max B.nests C.nests) F → Rel E F.vars (i ∷ r) σ.env live → Goal E c i r bl cl F n a b σ live (i ∷ r) (B.leaves || C.leaves) (run_head E.W.reading (if e) B.runs C.runs (around F) n σ)
    sim-if e a b σ live z sp h =
        let X = in_scopes (i ∷ r) c in
        evaluated e.number z.5 h (λ u σ' live' h'. tested (meets X lo h') (op z.6) h'
        (led X z.8 lo.its lo.hands refl (B.does X bl cl F z.1 z.2 n σ' live' z.7 (low-under lo) (record { rh = (let y = sp.rh in omega arith); ri = (let y = sp.ri in omega arith) }) h'))
        (led X z.10 lo.its lo.hands refl (C.does X bl cl F z.3 z.4 n σ' live' z.9 (low-under lo) (record { rh = (let y = sp.rh in omega arith); ri = (let y = sp.ri in omega arith) }) h')))

    pub sim-while : (e : Exp) (mark : Position) (a b : ℕ) (σ : St) (live : List Slot) → CodeHead (layout E) (while e mark) B.code B.leaves C.code C.leaves v (in_scopes (i ∷ r) c) a b → Space (max B.nests C.nests) F → Rel E F.vars (i ∷ r) σ.env live → Goal E c i r bl cl F n a b σ live (i ∷ r) v (run_head E.W.reading (while e mark) B.runs C.runs (around F) n σ)
    sim-while e mark a b σ live z sp h =
        counted (here c.loop bl cl F n) n _ (level (meets (in_scopes (i ∷ r) c) lo h) refl (op z.6)) (stepped (mach E [] F live) (op {E = E} z.6) refl)
        (looped z.3 z.4 (in_scopes (i ∷ r) c) (here c.loop bl cl F n) (while_round E.W.reading (endless e) e B.runs (around F)) lo.its lo.hands refl (inl (z.9, op z.10)) (go (endless e) z.7 z.11) n σ live h)
      where
        sp' : Space B.nests F
        sp' = record { rh = (let y = sp.rh in omega arith); ri = (let y = sp.ri in omega arith) }

        go : (t : Bool) → Tests (layout E) t e (in_scopes (i ∷ r) c) z.5 z.0 z.1 → Exits (layout E) t v (in_scopes (i ∷ r) c) z.5 b
            → (k : ℕ) (σ' : St) (live' : List Slot) → Rel E F.vars (i ∷ r) σ'.env live' → Ev E (Done E (here (Some (loop z.0 b v (i ∷ r))) F F F k) true (i ∷ r) (i ∷ r) B.leaves z.2 (while_round E.W.reading t e B.runs (around F) k σ')) (conf (ready z.0 (mach E [] F live')) σ'.world)
        go true y x k σ' live' h' = hop y (B.does (while_loop (layout E) z.0 b v (in_scopes (i ∷ r) c)) F F F z.1 z.2 k σ' live' z.8 (low-loop (low-under lo)) sp' h')
        go false y x k σ' live' h' = evaluated e.number y.1 h' (λ u σ₁ live₁ h₁. tested (meets (in_scopes (i ∷ r) c) lo h₁) (op y.2) h₁
            (B.does (while_loop (layout E) z.0 b v (in_scopes (i ∷ r) c)) F F F z.1 z.2 k σ₁ live₁ z.8 (low-loop (low-under lo)) sp' h₁)
            (glued false v 0 x (meets (in_scopes (i ∷ r) c) lo h₁) refl (λ fit. done ((live₁, refl, kept_all h₁, fit), rel-scopes E h₁))))

    pub sim-do : (until : Bool) (e : Exp) (mark : Position) (a b : ℕ) (σ : St) (live : List Slot) → CodeHead (layout E) (do_loop until e mark) B.code B.leaves C.code C.leaves v (in_scopes (i ∷ r) c) a b → Space (max B.nests C.nests) F → Rel E F.vars (i ∷ r) σ.env live → Goal E c i r bl cl F n a b σ live (i ∷ r) v (run_head E.W.reading (do_loop until e mark) B.runs C.runs (around F) n σ)
    sim-do until e mark a b σ live z sp h =
        counted (here c.loop bl cl F n) n _ (level (meets (in_scopes (i ∷ r) c) lo h) refl (op z.5)) (stepped (mach E [] F live) (op {E = E} z.5) refl)
        (looped {κ = false} {w = 0} 0 0 (in_scopes (i ∷ r) c) (here c.loop bl cl F n) (λ k σ₁. bind_v (scoped B.runs (around F) k σ₁) (λ w σ₂. bind_g (reading seek sets_inner (E.W.reading e.number) (around F) σ₂) (λ u σ₃. round_on until (truth u) e.at σ₃))) lo.its lo.hands refl
        (inr (λ k σ₁. no-value-V (scoped B.runs (around F) k σ₁) (λ w σ₂. bind_g (reading seek sets_inner (E.W.reading e.number) (around F) σ₂) (λ u σ₃. round_on until (truth u) e.at σ₃)) (λ w σ₂. no-value-G (reading seek sets_inner (E.W.reading e.number) (around F) σ₂) _ (λ u σ₃. no-value-end until (truth u) e.at σ₃))))
        (λ k σ₁ live₁ h₁. sequel (B.does (while_loop (layout E) z.0 b v (in_scopes (i ∷ r) c)) F F F z.0 z.1 k σ₁ live₁ z.6 (low-loop (low-under lo)) sp' h₁)
        (λ w σ₂ live₂ h₂ fit. dropped B.leaves w z.7 (meets (in_scopes (i ∷ r) c) lo h₂) (evaluated e.number z.8 h₂ (λ u σ₃ live₃ h₃. doing (in_scopes (i ∷ r) c) (here c.loop bl cl F n) z.4 e.at until lo.its lo.hands z.9 z.10 h₃))))
        n σ live h)
      where
        sp' : Space B.nests F
        sp' = record { rh = (let y = sp.rh in omega arith); ri = (let y = sp.ri in omega arith) }

    -- A `for`: its iterator, its variable, its rounds.
    pub sim-for : (x : Name) (e : Exp) (mark : Position) (a b : ℕ) (σ : St) (live : List Slot) → CodeHead (layout E) (for x e mark) B.code B.leaves C.code C.leaves v (in_scopes (i ∷ r) c) a b → Space (suc (max B.nests C.nests)) F → Rel E F.vars (i ∷ r) σ.env live → Goal E c i r bl cl F n a b σ live (i ∷ r) v (run_head E.W.reading (for x e mark) B.runs C.runs (around F) n σ)
    sim-for x e mark a b σ live z sp h =
        evaluated e.number z.15 h (λ u σ₁ live₁ h₁.
        act_to (ask (Iterate u) Open (mach E [] F live₁)) (meets X lo h₁) refl (op z.16) (ap (λ (t : Bool). cond t (ask (Iterate u) Open (mach E [] F live₁)) stuck) room)
        (answered (λ ss l k. k) (asking (Iterate u) Open (iterate u) (iterate-suits E u) refl h₁)
        (λ it σ₂ live₂ w h₂. subst (λ (t : Bool). Ev E (Done E (here c.loop bl cl F n) true (i ∷ r) (i ∷ r) v b (inside it σ₂)) (conf (after (cond t (next (tossed E [] (it ∷ F.its) F.hands live₂)) stuck) z.1) σ₂.world)) (sym room) (hop z.16.1 (begun it σ₂ live₂ h₂)))
        (λ σ₂ live₂ w h₂. no-done w)))
      where
        X : Ctx
        X = in_scopes (i ∷ r) c

        room : ltb (length F.its) 64 ≡ true
        room = lt-ltb (length F.its) 64 (let y = sp.ri in omega arith)

        turn : ℕ → ℕ → St → Out
        turn it k σ₃ = bind_n (asks (next_item it) (in_for it (around F)) σ₃) (λ u σ₄. scoped B.runs (in_for it (around F)) k (declared x.bytes u false σ₄))

        inside : ℕ → St → Out
        inside it σ₂ = closing (length σ₂.env) (rounds (turn it) n (declared x.bytes 0 false (opened σ₂)))

        new : Slot
        new = record { name = z.0; handle = 0; constant = false }

        XF : Ctx
        XF = for_loop (layout E) z.5 b v x.bytes (in_scopes (i ∷ r) c)

        Ff : ℕ → Frame
        Ff it = more_its F it (depth (i ∷ r))

        lo_f : (it : ℕ) → Low (Some (loop_for z.5 b v x.bytes (i ∷ r))) (suc c.its) c.hands (Ff it) F (Ff it) ((x.bytes ∷ []) ∷ i ∷ r)
        lo_f it = low-for it (low-under lo)

        mt_f : (it : ℕ) {ss : List Scope} {l : List Slot} → Rel E (depth (i ∷ r) ∷ F.vars) ((x.bytes ∷ []) ∷ i ∷ r) ss l → Meets XF (it ∷ F.its) F.hands l
        mt_f it h' = record { its = ap suc lo.its; hands = lo.hands; slots = rel-length E h' }

        one-round : (it k : ℕ) (σ₃ : St) (live₃ : List Slot) → Rel E (depth (i ∷ r) ∷ F.vars) ((x.bytes ∷ []) ∷ i ∷ r) σ₃.env live₃
            → Ev E (Done E (here (Some (loop_for z.5 b v x.bytes (i ∷ r))) F (Ff it) (Ff it) k) true ((x.bytes ∷ []) ∷ i ∷ r) ((x.bytes ∷ []) ∷ i ∷ r) B.leaves z.8 (turn it k σ₃)) (conf (ready z.5 (mach E [] (Ff it) live₃)) σ₃.world)
        one-round it k σ₃ live₃ h₃ =
            act (mt_f it h₃) refl (op z.20) (advanced (λ ss l f. f) (asking (Next it) (Advance z.11) (next_item it) (next-suits E it z.11) refl h₃)
            (λ u σ₄ live₄ h₄. hop z.20.1 (
            let s = shares E u h₄ in
            let to : List Slot = set live₄ (depth (i ∷ r)) (record { name = s.0.name; handle = u; constant = s.0.constant }) in
            act_to (next (mach E [] (Ff it) to)) (mt_f it h₄) refl (op z.21) (ap (λ (o : Option Slot). slotted o (λ y. next (mach E [] (Ff it) (set live₄ (depth (i ∷ r)) (record { name = y.name; handle = u; constant = y.constant }))))) s.1)
            (B.does XF F (Ff it) (Ff it) z.7 z.8 k (declared x.bytes u false σ₄) to z.22 (lo_f it) (record { rh = (let y = sp.rh in omega arith); ri = (let y = sp.ri in omega arith) }) s.2)))
            (λ σ₄ live₄ h₄.
            let h₅ : Rel E F.vars (i ∷ r) (keep (length (i ∷ r)) σ₄.env) (take (depth (i ∷ r)) live₄) = closes E (low-under lo).base (forgets E 1 (depth (i ∷ r) ∷ F.vars) refl h₄) in
            let mt : Meets (in_scopes ((x.bytes ∷ []) ∷ i ∷ r) c) F.its F.hands live₄ = record { its = lo.its; hands = lo.hands; slots = rel-length E h₄ } in
            let mt' : Meets (in_scopes (i ∷ r) c) F.its F.hands (take (depth (i ∷ r)) live₄) = record { its = lo.its; hands = lo.hands; slots = rel-length E h₅ } in
            unwound mt refl (op z.25) (let q = rel-length E h₄ in omega arith) (glued false v 0 z.26 mt' refl (λ fit. done ((take (depth (i ∷ r)) live₄, refl, h₅, fit), rel-scopes E h₄)))))

        begun : (it : ℕ) (σ₂ : St) (live₂ : List Slot) → Rel E F.vars (i ∷ r) σ₂.env live₂ → Ev E (Done E (here c.loop bl cl F n) true (i ∷ r) (i ∷ r) v b (inside it σ₂)) (conf (ready z.2 (tossed E [] (it ∷ F.its) F.hands live₂)) σ₂.world)
        begun it σ₂ live₂ h₂ =
            let mt : Meets (up_iters X) (it ∷ F.its) F.hands live₂ = record { its = ap suc lo.its; hands = lo.hands; slots = rel-length E h₂ } in
            act mt refl (op z.17) (act_to (next (tossed E [] (it ∷ F.its) F.hands (live₂ ++ new ∷ []))) mt refl (op z.18) (ap (λ (t : Bool). cond t (next (tossed E [] (it ∷ F.its) F.hands (live₂ ++ new ∷ []))) stuck) (lt-ltb (length live₂) E.room (let q = rel-length E h₂ in let g = z.14 in omega arith)))
            (subst (λ (q : ℕ). Ev E (Done E (here c.loop bl cl F n) true (i ∷ r) (i ∷ r) v b (closing q (rounds (turn it) n (declared x.bytes 0 false (opened σ₂))))) (conf (ready z.4 (mach E [] (Ff it) (live₂ ++ new ∷ []))) σ₂.world)) (sym (rel-scopes E h₂))
            (counted (here c.loop bl cl F n) n _ (level (mt_f it h₃) refl (op z.19)) (stepped (mach E [] (Ff it) (live₂ ++ new ∷ [])) (op {E = E} z.19) refl)
            (looped_for z.9 z.10 it x.bytes XF (here c.loop bl cl F n) (turn it) (ap suc lo.its) lo.hands refl (low-under lo).base z.23 (op z.24) (one-round it) n (declared x.bytes 0 false (opened σ₂)) (live₂ ++ new ∷ []) h₃))))
          where
            h₃ : Rel E (depth (i ∷ r) ∷ F.vars) ((x.bytes ∷ []) ∷ i ∷ r) (declares x.bytes (record { handle = 0; constant = false }) (no_scope ∷ σ₂.env)) (live₂ ++ new ∷ [])
            h₃ = introduces E z.0 x.bytes z.13 h₂

    -- A `try`: the body under a handler; on a fault the catch block, its name in a scope of its own.
    pub sim-try : (x : Option Name) (mark : Position) (a b : ℕ) (σ : St) (live : List Slot) → CodeHead (layout E) (try x mark) B.code B.leaves C.code C.leaves v (in_scopes (i ∷ r) c) a b → Space (suc (max B.nests C.nests)) F → Rel E F.vars (i ∷ r) σ.env live → Goal E c i r bl cl F n a b σ live (i ∷ r) B.leaves (run_head E.W.reading (try x mark) B.runs C.runs (around F) n σ)
    sim-try x mark a b σ live z sp h =
        act_to (next (tossed E [] F.its (H ∷ F.hands) live)) (meets X lo h) refl (op z.11) (ap (λ (t : Bool). cond t (next (tossed E [] F.its (H ∷ F.hands) live)) stuck) (lt-ltb (length F.hands) 64 (let y = sp.rh in omega arith)))
        (tried X (length live) (rel-length E h) lo.its lo.hands (name-room x z.9 z.10) (op z.13) (op z.14)
        (B.does (in_try_code X) bl cl (more_hands H F) z.0 z.1 n σ live z.12 (low-deeper (low-under lo)) (record { rh = (let y = sp.rh in omega arith); ri = (let y = sp.ri in omega arith) }) h)
        (λ f ρ live' h'. unhand X H lo.its lo.hands (op z.18) z.19 (closed (in_try_code X) (catch_scope x) refl z.17 (low-deeper (low-under lo)) (sym (rel-scopes E h')) (outer (low-under lo).base (
        sequel (catch f ρ live' h') (λ u τ live'' h'' fit. dropped C.leaves u z.16 (meets (in_scopes (catch_scope x ∷ i ∷ r) (in_try_code X)) (low-deeper {H = caught H} lo) h'') (done (live'', refl, h'', refl))))))))
      where
        X : Ctx
        X = in_scopes (i ∷ r) c

        H : Handler
        H = record { armed = true; target = z.4; name = z.9; values = 0; slots = length live; iters = length F.its }

        name-room : (x : Option Name) (nm : Option ℕ) → NameAny (layout E) x nm (in_scopes (i ∷ r) c) → NameRoom E nm (depth (i ∷ r))
        name-room None None y = tt
        name-room None (Some d) y = absurd y
        name-room (Some x) None y = absurd y
        name-room (Some x) (Some d) y = y.1

        naming-world : (x : Option Name) (f : ℕ) (ρ : St) → (naming x f (opened ρ)).world ≡ ρ.world
        naming-world None f ρ = refl
        naming-world (Some x) f ρ = refl

        named : (x : Option Name) (nm : Option ℕ) → NameAny (layout E) x nm (in_scopes (i ∷ r) c) → (f : ℕ) (ρ : St) (live' : List Slot) → Rel E F.vars (i ∷ r) ρ.env live' → Rel E F.vars (catch_scope x ∷ i ∷ r) (naming x f (opened ρ)).env (with_name nm f live')
        named None None y f ρ live' h' = opens E h'
        named None (Some d) y f ρ live' h' = absurd y
        named (Some x) None y f ρ live' h' = absurd y
        named (Some x) (Some d) y f ρ live' h' = declared-rel E d x.bytes f false y.0 (opens E h')

        catch : (f : ℕ) (ρ : St) (live' : List Slot) → Rel E F.vars (i ∷ r) ρ.env live'
            → Ev E (Done E (here (deeper_loop c.loop) bl cl (more_hands (caught H) F) n) true (catch_scope x ∷ i ∷ r) (catch_scope x ∷ i ∷ r) C.leaves z.5 (scoped C.runs (around F) n (naming x f (opened ρ)))) (conf (ready z.4 (mach E [] (more_hands (caught H) F) (with_name z.9 f live'))) ρ.world)
        catch f ρ live' h' = subst (λ (w : World). Ev E (Done E (here (deeper_loop c.loop) bl cl (more_hands (caught H) F) n) true (catch_scope x ∷ i ∷ r) (catch_scope x ∷ i ∷ r) C.leaves z.5 (scoped C.runs (around F) n (naming x f (opened ρ)))) (conf (ready z.4 (mach E [] (more_hands (caught H) F) (with_name z.9 f live'))) w)) (naming-world x f ρ)
            (C.does (in_scopes (catch_scope x ∷ i ∷ r) (in_try_code (in_scopes (i ∷ r) c))) bl cl (more_hands (caught H) F) z.4 z.5 n (naming x f (opened ρ)) (with_name z.9 f live') z.15 (low-deeper (low-under (low-under lo))) (record { rh = (let y = sp.rh in omega arith); ri = (let y = sp.ri in omega arith) }) (named x z.9 z.10 f ρ live' h'))
