-- The simulation: wherever a script's code stands, the fed player follows the tree.
use Rattle.std.proofs.Common.{◌≡◌, ℕ, zero, suc, ◌≤◌, Bool, true, false, cond, eqb, List, [], ◌∷◌, ◌++◌, None, sym, refl, ap, ◌∙◌, subst, arith}
use Rattle.records.specs.Tree.{nowhere, Head, Head.noop, Head.var, Head.expr, Head.call, Head.assign, Head.other, Head.block, Head.try, Head.for, Head.if, Head.while, Head.do_loop, Head.break, Head.continue, Head.return, Head.throw, Tree.node, Forest.nil, Forest.more, Stmt, Block}
use Rattle.code.specs.declared.ops.Instr.{Instr}
use Rattle.code.specs.declared.ops.Row.{Row}
use Rattle.code.specs.declared.ops.Op.TheVariants.{Return}
use Rattle.code.specs.declared.talk.Slot.{Slot}
use Rattle.code.specs.declared.talk.End.TheVariants.{Value as Gives}
use Rattle.meaning.specs.Calls.{State.ready, State.ended, empty}
use Rattle.meaning.specs.Reading.{Bytes, no_scope, Event, st}
use Rattle.meaning.specs.Run.{St, Out, Out.value, Out.broke, Out.continued, Out.returned, Out.fault, Out.waits, Out.spent, opened, run, run_list, run_script}
use Rattle.meaning.specs.Breaks.{has_break_value}
use Rattle.meaning.specs.Fed.{Tables, Conf, conf, Comes, Comes.here, Comes.then, Goes}
use Rattle.meaning.specs.Writer.{Writer}
use Rattle.meaning.specs.Agreement.{Heights}
use Rattle.meaning.proofs.Place.{Scopes, add_name, after, after_list, Ctx, top_ctx, heights, in_scopes, kind, kind_list, deep, deep_list, Scoped, Code, CodeList, CodeScript, Checks, Glue}
use Rattle.meaning.proofs.Layouts.{Level, Follows, Simulation}
use Rattle.meaning.proofs.Rel.{Env, Rel, Runs.bottom, rel-length, rel-scopes, opens}
use Rattle.meaning.proofs.Hear.{Frame, mach, around, Lev, Ev, Ins, next-then, hop}
use Rattle.meaning.proofs.Exits.{push, Fits, layout, Done, Low, Meets, act, op, meets, done, dropped, glued, sequel, closed, outer, lives}
use Rattle.meaning.proofs.Loops.{here as here_cx, Space, continues}
use Rattle.meaning.proofs.Heads.{Does, Blk, sim-noop, sim-var, sim-expr, asked-whole, sim-assign, sim-block, sim-try, sim-for, sim-if, sim-while, sim-do, sim-break, sim-return, sim-throw}

-- ## The scope that a list of statements stands in grows, those around it stay

added : (t : Bool) (x : Bytes) (n : List Bytes) (r : Scopes) → (m : List Bytes) × (cond t (add_name x (n ∷ r)) (n ∷ r) ≡ m ∷ r)
added true x n r = (n ++ x ∷ [], refl)
added false x n r = (n, refl)

after-shape : (n : List Bytes) (r : Scopes) (s : Stmt) → (m : List Bytes) × (after (n ∷ r) s ≡ m ∷ r)
after-shape n r (node noop B C) = (n, refl)
after-shape n r (node (var k x e t) B C) = added (eqb t 0) x.bytes n r
after-shape n r (node (expr e) B C) = (n, refl)
after-shape n r (node (call x j) B C) = (n, refl)
after-shape n r (node (assign x e o p q) B C) = (n, refl)
after-shape n r (node (other j) B C) = (n, refl)
after-shape n r (node block B C) = (n, refl)
after-shape n r (node (try x p) B C) = (n, refl)
after-shape n r (node (for x e p) B C) = (n, refl)
after-shape n r (node (if e) B C) = (n, refl)
after-shape n r (node (while e p) B C) = (n, refl)
after-shape n r (node (do_loop u e p) B C) = (n, refl)
after-shape n r (node (break e) B C) = (n, refl)
after-shape n r (node continue B C) = (n, refl)
after-shape n r (node (return e) B C) = (n, refl)
after-shape n r (node (throw e p) B C) = (n, refl)

after_list-shape : (n : List Bytes) (r : Scopes) (B : Block) → (m : List Bytes) × (after_list (n ∷ r) B ≡ m ∷ r)
after_list-shape n r nil = (n, refl)
after_list-shape n r (more s B) = let h = after-shape n r s in let k = after_list-shape h.0 r B in (k.0, ap (λ (q : Scopes). after_list q B) h.1 ∙ k.1)

-- ## Statements and lists of statements

module _ (E : Env) where
  -- A statement in the list of a scope.
  abbrev SimS : Stmt → Type 0
  SimS s =
      (c : Ctx) (i : List Bytes) (r : Scopes) (bl cl F : Frame) (a b n : ℕ) (σ : St) (live : List Slot) → Code (layout E) s (in_scopes (i ∷ r) c) a b → Low c.loop c.its c.hands F bl cl r → Space (deep s) F → Rel E F.vars (i ∷ r) σ.env live
      → Ev E (Done E (here_cx c.loop bl cl F n) true (i ∷ r) (after (i ∷ r) s) (kind s) b (run E.W.reading s (around F) n σ)) (conf (ready a (mach E [] F live)) σ.world)

  -- The rest of a list, after a statement whose value was v.
  abbrev SimL : Block → Type 0
  SimL B =
      (k κ : Bool) (v : ℕ) (c : Ctx) (i : List Bytes) (r : Scopes) (bl cl F : Frame) (a b n : ℕ) (σ : St) (live : List Slot) → CodeList (layout E) B k κ (in_scopes (i ∷ r) c) a b → Fits κ v → Low c.loop c.its c.hands F bl cl r → Space (deep_list B) F → Rel E F.vars (i ∷ r) σ.env live
      → Ev E (Done E (here_cx c.loop bl cl F n) false r (after_list (i ∷ r) B) (kind_list κ B) b (run_list E.W.reading B v (around F) n σ)) (conf (ready a (mach E (push κ v) F live)) σ.world)

  -- A block in a scope of its own.
  blocks : (B : Block) → SimL B → Does E (Scoped (layout E) B (λ d x y. CodeList (layout E) B false false d x y)) (kind_list false B) (deep_list B) (run_list E.W.reading B 0)
  blocks B f c bl cl F a b n σ live z lo sp h =
      let p = after_list-shape [] c.ns B in
      closed c p.0 p.1 z.2 lo (sym (rel-scopes E h)) (f false false 0 c [] c.ns bl cl F a z.0 n (opened σ) live z.1 refl lo sp (opens E h))

  blk : (B : Block) → SimL B → Blk E
  blk B f = record { code = Scoped (layout E) B (λ d x y. CodeList (layout E) B false false d x y); leaves = kind_list false B; nests = deep_list B; runs = run_list E.W.reading B 0; does = blocks B f }

  -- One statement, by its head.
  headed : (h : Head) (B C : Block) → SimL B → SimL C → SimS (node h B C)
  unfolding blk
  headed noop B C f g c i r bl cl F a b n σ live z lo sp h = sim-noop E c i r bl cl F n lo a b σ live z h
  headed (var k x e t) B C f g c i r bl cl F a b n σ live z lo sp h = sim-var E c i r bl cl F n lo k x e t a b z.0 σ live z.1 z.2 h
  headed (expr e) B C f g c i r bl cl F a b n σ live z lo sp h = sim-expr E c i r bl cl F n lo e a b σ live z h
  headed (call x j) B C f g c i r bl cl F a b n σ live z lo sp h = asked-whole E c i r bl cl F n lo a b j z.0 σ live z.1 (op z.2) h
  headed (assign x e o at mark) B C f g c i r bl cl F a b n σ live z lo sp h = sim-assign E c i r bl cl F n lo x e o at mark a b z.0 z.1 z.2 σ live z.3 z.4 z.5 z.6 h
  headed (other j) B C f g c i r bl cl F a b n σ live z lo sp h = asked-whole E c i r bl cl F n lo a b j z.0 σ live z.1 (op z.2) h
  headed block B C f g c i r bl cl F a b n σ live z lo sp h = sim-block E c i r bl cl F n lo (blk B f) (blk C g) (has_break_value B) a b σ live z sp h
  headed (try x p) B C f g c i r bl cl F a b n σ live z lo sp h = sim-try E c i r bl cl F n lo (blk B f) (blk C g) (has_break_value B) x p a b σ live z sp h
  headed (for x e p) B C f g c i r bl cl F a b n σ live z lo sp h = sim-for E c i r bl cl F n lo (blk B f) (blk C g) (has_break_value B) x e p a b σ live z sp h
  headed (if e) B C f g c i r bl cl F a b n σ live z lo sp h = sim-if E c i r bl cl F n lo (blk B f) (blk C g) (has_break_value B) e a b σ live z sp h
  headed (while e p) B C f g c i r bl cl F a b n σ live z lo sp h = sim-while E c i r bl cl F n lo (blk B f) (blk C g) (has_break_value B) e p a b σ live z sp h
  headed (do_loop u e p) B C f g c i r bl cl F a b n σ live z lo sp h = sim-do E c i r bl cl F n lo (blk B f) (blk C g) (has_break_value B) u e p a b σ live z sp h
  headed (break e) B C f g c i r bl cl F a b n σ live z lo sp h = sim-break E c i r bl cl F n lo e a b σ live z h
  headed continue B C f g c i r bl cl F a b n σ live z lo sp h = continues c c.loop a z lo h
  headed (return e) B C f g c i r bl cl F a b n σ live z lo sp h = sim-return E c i r bl cl F n lo e a b σ live z h
  headed (throw e p) B C f g c i r bl cl F a b n σ live z lo sp h = sim-throw E c i r bl cl F n lo e p a b σ live z h

  -- The first statement of a list, then the rest.
  listed : (s : Stmt) (B : Block) → SimS s → SimL B → SimL (more s B)
  listed s B f g k κ v c i r bl cl F a b n σ live z fit lo sp h =
      let p = after-shape i r s in
      dropped κ v z.3 (meets (in_scopes (i ∷ r) c) lo h) (checked k z.4 (
      sequel (outer lo.base (f c i r bl cl F z.1 z.2 n σ live z.5 lo (record { rh = (let y = sp.rh in omega arith); ri = (let y = sp.ri in omega arith) }) h))
      (λ u σ' live' h' fit'. subst (λ (q : Scopes). Ev E (Done E (here_cx c.loop bl cl F n) false r (after_list q B) (kind_list (kind s) B) b (run_list E.W.reading B u (around F) n σ')) (conf (ready z.2 (mach E (push (kind s) u) F live')) σ'.world)) (sym p.1)
      (g k (kind s) u c p.0 r bl cl F z.2 b n σ' live' (subst (λ (q : Scopes). CodeList (layout E) B k (kind s) (in_scopes q c) z.2 b) p.1 z.6) fit' lo (record { rh = (let y = sp.rh in omega arith); ri = (let y = sp.ri in omega arith) }) (subst (λ (q : Scopes). Rel E F.vars q σ'.env live') p.1 h')))))
    where
      checked : {Q : Conf → Type 0} (k : Bool) → Checks (layout E) k (in_scopes (i ∷ r) c) z.0 z.1 → Ev E Q (conf (ready z.1 (mach E [] F live)) σ.world) → Ev E Q (conf (ready z.0 (mach E [] F live)) σ.world)
      checked false e t = hop e t
      checked true o t = act (meets (in_scopes (i ∷ r) c) lo h) refl (op o) t

  mutual
    pub sim_s : (s : Stmt) → SimS s
    sim_s (node h B C) = headed h B C (sim_l B) (sim_l C)

    pub sim_l : (B : Block) → SimL B
    sim_l nil k κ v c i r bl cl F a b n σ live z fit lo sp h = hop z (done (live, refl, h, fit))
    sim_l (more s B) k κ v c i r bl cl F a b n σ live z fit lo sp h = listed s B (sim_s s) (sim_l B) k κ v c i r bl cl F a b n σ live z fit lo sp h

-- ## The whole script

module _ (E : Env) where
  -- The levels as the goal has them.
  unlevel : {Q : Conf → Type 0} {d : Conf} → Ev E Q d → Comes E.code E.rows E.T (λ c. Level E.code E.rows E.T E.W E.room E.H E.free c.state) Q d
  unlevel (here q) = here q
  unlevel (then l e t) = then l.level e (unlevel t)

  unlevel-goes : (n : ℕ) (d : Conf) → Goes E.code E.rows E.T (Lev E) n d → Goes E.code E.rows E.T (λ c. Level E.code E.rows E.T E.W E.room E.H E.free c.state) n d
  unlevel-goes zero d g = tt
  unlevel-goes (suc n) d g = (g.0, g.1.level, g.2, unlevel-goes n g.0 g.3)

  never : {Q : Conf → Type 0} {d : Conf} → Ev E Q d → ((c : Conf) → Q c → ⊥) → ⊥
  never (here q) f = f _ q
  never (then l e t) f = never t f

  -- Around the outermost statements there is nothing.
  bare : Frame
  bare = record { its = []; hands = []; vars = [] }

  -- From the end of the statements to the end of the script.
  finished : (B : Block) (n m u z : ℕ) (d : Conf) → Glue (layout E) (kind_list false B) true (in_scopes (after_list ([] ∷ []) B) top_ctx) m u → Ins E Return nowhere (heights 1 (in_scopes (after_list ([] ∷ []) B) top_ctx)) u z
      → (r : Out) → Ev E (Done E (here_cx None bare bare bare n) false [] (after_list ([] ∷ []) B) (kind_list false B) m r) d → Follows E.code E.rows E.T E.W E.room E.H E.free n r d
  unfolding bare
  finished B n m u z d g i (value v σ) t = unlevel (next-then t (λ x q.
      let mt : Meets (in_scopes (after_list ([] ∷ []) B) top_ctx) [] [] q.is.0 = record { its = refl; hands = refl; slots = rel-length E q.is.2 } in
      subst (λ (y : Conf). Ev E (λ c. c ≡ conf (ended (Gives v)) σ.world) y) (sym q.is.1) (glued (kind_list false B) true v g mt q.is.3 (λ fit. act mt refl i (here refl)))))
  finished B n m u z d g i (broke v σ) t = never t (λ x q. q.is.0)
  finished B n m u z d g i (continued σ) t = never t (λ x q. q.is.0)
  finished B n m u z d g i (returned v σ) t = unlevel (next-then t (λ x q. here q.is))
  finished B n m u z d g i (fault h p σ) t = unlevel (next-then t (λ x q. here q.is.3))
  finished B n m u z d g i (waits q A σ) t = unlevel (next-then t (λ x y. here y.is))
  finished B n m u z d g i spent t = unlevel-goes (suc n) d (lives E (suc n) (next-then t (λ x q. here q.is)))

  followed : (k : Bool) (B : Block) → deep_list B ≤ 64 → CodeScript (layout E) k B → (f : List Event) (n : ℕ)
      → Follows E.code E.rows E.T E.W E.room E.H E.free n (run_script E.W.reading B f n) (conf (ready 0 (empty E.room)) (record { feed = f; asked = [] }))
  unfolding bare
  followed k B dp z f n =
      finished B n z.0 z.1 z.2 (conf (ready 0 (empty E.room)) (record { feed = f; asked = [] })) z.4 (op z.5) (run_script E.W.reading B f n)
      (sim_l E B k false 0 top_ctx [] [] bare bare bare 0 z.0 n (st (no_scope ∷ []) (record { feed = f; asked = [] })) [] z.3 refl
      (record { low = tt; base = tt; its = refl; hands = refl }) (record { rh = omega arith; ri = omega arith }) (opens E (record { runs = bottom; firm = tt })))

-- The fed player follows the tree, wherever set code of a lawful writer stands, at the heights of its places.
pub simulation : (code : List Instr) (rows : List Row) (T : Tables) (W : Writer) (room : ℕ) (H : ℕ → Heights) (outside : ℕ → Bool) → Simulation code rows T W room H outside
simulation code rows T W room H outside exprs k B law once dp z f n =
    followed (record { code = code; rows = rows; T = T; W = W; room = room; H = H; free = outside; exprs = exprs; law = law; once = once }) k B dp z f n
