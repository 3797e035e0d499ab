-- Rounds of a loop, leaving a loop, and handlers: the parts of a statement's run that change the frame.
use Rattle.std.proofs.Common.{◌≡◌, ℕ, zero, suc, ◌+◌, ◌-◌, ◌<◌, ◌≤◌, Bool, true, false, cond, leb, ◌⊎◌, List, [], ◌∷◌, ◌++◌, length, take, Some, None, Option, sym, refl, ap, ◌∙◌, subst, ap₂, subst₂, inl, inr, arith, length-drop, length-take, take-take, lt-ltb, le-leb}
use Rattle.records.specs.declared.types.Position.{Position}
use Rattle.records.specs.Tree.{nowhere, Exp}
use Rattle.code.specs.declared.ops.Op.{Op}
use Rattle.code.specs.declared.ops.Op.TheVariants.{Jump, PopHandler}
use Rattle.code.specs.declared.talk.Slot.{Slot}
use Rattle.code.specs.declared.talk.Handler.{Handler}
use Rattle.meaning.specs.Machine.{Mach, Effect, Effect.next, Effect.goto, Effect.stuck, branch, exec}
use Rattle.meaning.specs.Throws.{keep, roused, caught, naming as naming_m, landing, catches}
use Rattle.meaning.specs.Calls.{State.ready, landed, after}
use Rattle.meaning.specs.Reading.{Bytes, Scope, seek, sets_inner, World, Truth, Truth.yes, Truth.no, Truth.neither, truth, reading, Got.got, Got.bad, Got.dry}
use Rattle.meaning.specs.Run.{St, Got, Out, Out.value, Out.broke, Out.continued, Out.returned, Out.fault, Out.waits, Out.spent, bind_g, bind_v, closing, round_on, again, rounds, catching}
use Rattle.meaning.specs.Fed.{Conf, conf, move}
use Rattle.meaning.specs.Agreement.{Heights}
use Rattle.meaning.proofs.Place.{Scopes, depth, Ctx, LoopAt, heights, one, in_scopes, deeper_loop, in_try_code, Glue, Drop, Leave, Break, Continue, DoTest}
use Rattle.meaning.proofs.Slots.{keep-keep, keep_all, keep-length, keep-none, keep-cons, Below, below-le}
use Rattle.meaning.proofs.Rel.{Env, Rel, rel-length, rel-scopes, closes, Ends.same, Ends.under, ends-depth, drop_to, forgets}
use Rattle.meaning.proofs.Hear.{Frame, mach, around, Ev, Ins, moved, steps, next-then}
use Rattle.meaning.proofs.Exits.{Cx, up_till, push, Fits, tossed, layout, BrokeAt, ContAt, Exit, Done, LowAt, Low, Meets, jumps, branch-is, push-length, level, act_to, act, op, meets, done, dropped, glued, blanked, left, thrown, evaluated, counted}

-- ## Frames and contexts

abbrev pub here : Option LoopAt → Frame → Frame → Frame → ℕ → Cx
here L bl cl F n = record { lp = L; bl = bl; cl = cl; hs = F; n = suc n }

abbrev pub loop : ℕ → ℕ → Bool → Scopes → LoopAt
loop t b v ns = record { cont = t; brk = b; hasv = v; bns = ns; cns = ns; pops = 0; bdrops = 0; cdrops = 0 }

abbrev pub loop_for : ℕ → ℕ → Bool → Bytes → Scopes → LoopAt
loop_for t b v x ns = record { cont = t; brk = b; hasv = v; bns = ns; cns = (x ∷ []) ∷ ns; pops = 0; bdrops = 1; cdrops = 0 }

-- One iterator more, with its variable's slot; one handler more.
abbrev pub more_its : Frame → ℕ → ℕ → Frame
more_its F it j = record { its = it ∷ F.its; hands = F.hands; vars = j ∷ F.vars }

abbrev pub more_hands : Handler → Frame → Frame
more_hands H F = record { its = F.its; hands = H ∷ F.hands; vars = F.vars }

abbrev pub inner : Cx → LoopAt → ℕ → Cx
inner c l k = record { lp = Some l; bl = c.hs; cl = c.hs; hs = c.hs; n = suc k }

abbrev pub inner_for : Cx → LoopAt → ℕ → ℕ → ℕ → Cx
inner_for c l it j k = record { lp = Some l; bl = c.hs; cl = more_its c.hs it j; hs = more_its c.hs it j; n = suc k }

-- There is room for what a statement opens.
pub record Space (k : ℕ) (F : Frame) : Type 0 where
  pub rh : k + length F.hands ≤ 64
  pub ri : k + length F.its ≤ 64

pub low-under : {L : Option LoopAt} {it hd : ℕ} {F bl cl : Frame} {n : List Bytes} {r : Scopes} → Low L it hd F bl cl r → Low L it hd F bl cl (n ∷ r)
low-under {L} {F} {bl} {cl} {n} {r} lo = record { low = go L lo.low; base = below-le F.vars lo.base (omega arith); its = lo.its; hands = lo.hands }
  where
    go : (L : Option LoopAt) → LowAt L F bl cl r → LowAt L F bl cl (n ∷ r)
    go None o = tt
    go (Some l) o = (under o.0, under o.1, o.2, o.3, o.4, o.5, o.6, o.7, o.8, o.9)

pub low-deeper : {L : Option LoopAt} {it hd : ℕ} {H : Handler} {F bl cl : Frame} {r : Scopes} → Low L it hd F bl cl r → Low (deeper_loop L) it (suc hd) (more_hands H F) bl cl r
low-deeper {L} {H} {F} {bl} {cl} {r} lo = record { low = go L lo.low; base = lo.base; its = lo.its; hands = ap suc lo.hands }
  where
    go : (L : Option LoopAt) → LowAt L F bl cl r → LowAt (deeper_loop L) (more_hands H F) bl cl r
    go None o = tt
    go (Some l) o = o

pub low-loop : {L : Option LoopAt} {it hd t b : ℕ} {v : Bool} {F bl cl : Frame} {ns : Scopes} → Low L it hd F bl cl ns → Low (Some (loop t b v ns)) it hd F F F ns
low-loop lo = record { low = (same, same, refl, refl, refl, refl, refl, refl, lo.base, lo.base); base = lo.base; its = lo.its; hands = lo.hands }

pub low-for : {L : Option LoopAt} {it hd t b : ℕ} {v : Bool} {x : Bytes} {F bl cl : Frame} {ns : Scopes} (h : ℕ) → Low L it hd F bl cl ns → Low (Some (loop_for t b v x ns)) (suc it) hd (more_its F h (depth ns)) F (more_its F h (depth ns)) ((x ∷ []) ∷ ns)
low-for {F} {ns} h lo =
    let up : Below F.vars (1 + depth ns) = below-le F.vars lo.base (omega arith) in
    record { low = (under same, same, refl, refl, refl, refl, refl, refl, lo.base, (omega arith, up)); base = (omega arith, up); its = ap suc lo.its; hands = lo.hands }

-- Only the last of several ways gives a value.
abbrev pub NoValue : Out → Type 0
NoValue (value v σ) = ⊥
NoValue (broke v σ) = Unit {0}
NoValue (continued σ) = Unit {0}
NoValue (returned v σ) = Unit {0}
NoValue (fault h p σ) = Unit {0}
NoValue (waits q A σ) = Unit {0}
NoValue spent = Unit {0}

pub no-value-V : (r : Out) (k : ℕ → St → Out) → ((v : ℕ) (σ : St) → NoValue (k v σ)) → NoValue (bind_v r k)
no-value-V (value v σ) k f = f v σ
no-value-V (broke v σ) k f = tt
no-value-V (continued σ) k f = tt
no-value-V (returned v σ) k f = tt
no-value-V (fault h p σ) k f = tt
no-value-V (waits q A σ) k f = tt
no-value-V spent k f = tt

pub no-value-G : (r : Got) (k : ℕ → St → Out) → ((v : ℕ) (σ : St) → NoValue (k v σ)) → NoValue (bind_g r k)
no-value-G (got v σ) k f = f v σ
no-value-G (bad h p σ) k f = tt
no-value-G (dry q A σ) k f = tt

pub no-value-end : (u : Bool) (t : Truth) (p : Position) (σ : St) → NoValue (round_on u t p σ)
no-value-end false yes p σ = tt
no-value-end false no p σ = tt
no-value-end false neither p σ = tt
no-value-end true yes p σ = tt
no-value-end true no p σ = tt
no-value-end true neither p σ = tt

-- A catch name's slot, if there is a name.
abbrev pub with_name : Option ℕ → ℕ → List Slot → List Slot
with_name None h live = live
with_name (Some x) h live = live ++ record { name = x; handle = h; constant = false } ∷ []

abbrev pub NameRoom : Env → Option ℕ → ℕ → Type 0
NameRoom E None d = Unit {0}
NameRoom E (Some x) d = d < E.room

module _ {E : Env} where
  -- An operation as one move.
  pub stepped : {o : Op} {p : Position} {h : Heights} {a b : ℕ} (m : Mach) {n : Mach} {w : World} → Ins E o p h a b → exec E.rows o p m ≡ next n → move E.code E.rows E.T (conf (ready a m) w) ≡ Some (conf (ready b n) w)
  stepped {a} m {n} {w} i e = moved E a m w (ready (suc a) n) (steps m i ∙ ap (λ (x : Effect). after x a) e) ∙ ap (λ (k : ℕ). Some (conf (ready k n) w)) i.to

  pub jumped : {o : Op} {p : Position} {h : Heights} {a b t : ℕ} (m : Mach) {n : Mach} {w : World} → Ins E o p h a b → exec E.rows o p m ≡ goto t n → move E.code E.rows E.T (conf (ready a m) w) ≡ Some (conf (ready t n) w)
  jumped {a} {t} m {n} {w} i e = moved E a m w (ready t n) (steps m i ∙ ap (λ (x : Effect). after x a) e)

  kept : {js : List ℕ} {ns : Scopes} (ss : List Scope) {live : List Slot} → length ss ≡ length ns → Rel E js ns (keep (length ns) ss) live → Rel E js ns ss live
  kept {js} {ns} ss {live} z r = subst (λ (x : List Scope). Rel E js ns x live) (keep_all ss (length ns) z) r

  pub kept_all : {js : List ℕ} {ns : Scopes} {ss : List Scope} {live : List Slot} → Rel E js ns ss live → Rel E js ns (keep (length ns) ss) live
  kept_all {js} {ns} {ss} {live} r = subst (λ (x : List Scope). Rel E js ns x live) (sym (keep_all ss (length ns) (rel-scopes E r))) r

  -- ## The rounds of a loop
  pub looped : {ns : Scopes} {κ hv : Bool} {top w b : ℕ} (x y : ℕ) (X : Ctx) (c : Cx) (body : ℕ → St → Out) → length c.hs.its ≡ X.its → length c.hs.hands ≡ X.hands → X.ns ≡ ns
      → ((Drop (layout E) κ X w x × Ins E (Jump top) nowhere (heights 0 X) x y) ⊎ ((k : ℕ) (σ : St) → NoValue (body k σ)))
      → ((k : ℕ) (σ : St) (live : List Slot) → Rel E c.hs.vars ns σ.env live → Ev E (Done E (inner c (loop top b hv ns) k) true ns ns κ w (body k σ)) (conf (ready top (mach E [] c.hs live)) σ.world))
      → (k : ℕ) (σ : St) (live : List Slot) → Rel E c.hs.vars ns σ.env live → Ev E (Done E (up_till k c) true ns ns hv b (rounds body k σ)) (conf (ready top (mach E [] c.hs live)) σ.world)
  looped x y X c body li lh ln bk f zero σ live h = done tt
  looped {ns} {κ} {hv} {top} {w} {b} x y X c body li lh ln bk f (suc k) σ live h = next-then (f k σ live h) (λ d q. go (looped x y X c body li lh ln bk f k) (body k σ) (this bk) d q.is)
    where
      this : ((Drop (layout E) κ X w x × Ins E (Jump top) nowhere (heights 0 X) x y) ⊎ ((k : ℕ) (σ : St) → NoValue (body k σ))) → (Drop (layout E) κ X w x × Ins E (Jump top) nowhere (heights 0 X) x y) ⊎ NoValue (body k σ)
      this (inl z) = inl z
      this (inr z) = inr (z k σ)

      go : ((σ : St) (live : List Slot) → Rel E c.hs.vars ns σ.env live → Ev E (Done E (up_till k c) true ns ns hv b (rounds body k σ)) (conf (ready top (mach E [] c.hs live)) σ.world))
          → (r : Out) → ((Drop (layout E) κ X w x × Ins E (Jump top) nowhere (heights 0 X) x y) ⊎ NoValue r) → (d : Conf) → Exit E (inner c (loop top b hv ns) k) true ns ns κ w r d
          → Ev E (Done E (up_till (suc k) c) true ns ns hv b (again r (rounds body k))) d
      go rec (value v ρ) (inl bk) d q =
          let mt : Meets X c.hs.its c.hs.hands q.0 = record { its = li; hands = lh; slots = rel-length E q.2 ∙ ap depth (sym ln) } in
          subst (λ (z : Conf). Ev E (Done E (up_till (suc k) c) true ns ns hv b (rounds body k ρ)) z) (sym q.1) (dropped κ v bk.0 mt (counted c k (rounds body k ρ) (level mt refl bk.1) (jumped (mach E [] c.hs q.0) bk.1 refl) (rec ρ q.0 q.2)))
      go rec (value v ρ) (inr no_value) d q = absurd no_value
      go rec (broke v ρ) bk d q = done (q.0.0, q.0.1, kept ρ.env q.1 q.0.2, q.0.3)
      go rec (continued ρ) bk d q = counted c k (rounds body k ρ) q.0.1 q.0.2 (rec ρ q.0.0 (kept ρ.env q.1 q.0.3))
      go rec (returned v ρ) bk d q = done q
      go rec (fault h p ρ) bk d q = done q
      go rec (waits n A ρ) bk d q = done q
      go rec spent bk d q = done q

  -- The rounds of a `for`: its frame has one iterator more, its body one scope more.
  pub looped_for : {ns : Scopes} {κ hv : Bool} {top w b : ℕ} (g y it : ℕ) (x : Bytes) (X : Ctx) (c : Cx) (body : ℕ → St → Out) → suc (length c.hs.its) ≡ X.its → length c.hs.hands ≡ X.hands → X.ns ≡ (x ∷ []) ∷ ns → Below c.hs.vars (depth ns)
      → Drop (layout E) κ X w g → Ins E (Jump top) nowhere (heights 0 X) g y
      → ((k : ℕ) (σ : St) (live : List Slot) → Rel E (depth ns ∷ c.hs.vars) ((x ∷ []) ∷ ns) σ.env live → Ev E (Done E (inner_for c (loop_for top b hv x ns) it (depth ns) k) true ((x ∷ []) ∷ ns) ((x ∷ []) ∷ ns) κ w (body k σ)) (conf (ready top (mach E [] (more_its c.hs it (depth ns)) live)) σ.world))
      → (k : ℕ) (σ : St) (live : List Slot) → Rel E (depth ns ∷ c.hs.vars) ((x ∷ []) ∷ ns) σ.env live → Ev E (Done E (up_till k c) true ns ns hv b (closing (length ns) (rounds body k σ))) (conf (ready top (mach E [] (more_its c.hs it (depth ns)) live)) σ.world)
  looped_for g y it x X c body li lh ln bl dr j f zero σ live h = done tt
  looped_for {ns} {κ} {hv} {top} {w} {b} g y it x X c body li lh ln bl dr j f (suc k) σ live h = next-then (f k σ live h) (λ d q. go (looped_for g y it x X c body li lh ln bl dr j f k) (body k σ) d q.is)
    where
      go : ((σ : St) (live : List Slot) → Rel E (depth ns ∷ c.hs.vars) ((x ∷ []) ∷ ns) σ.env live → Ev E (Done E (up_till k c) true ns ns hv b (closing (length ns) (rounds body k σ))) (conf (ready top (mach E [] (more_its c.hs it (depth ns)) live)) σ.world))
          → (r : Out) (d : Conf) → Exit E (inner_for c (loop_for top b hv x ns) it (depth ns) k) true ((x ∷ []) ∷ ns) ((x ∷ []) ∷ ns) κ w r d
          → Ev E (Done E (up_till (suc k) c) true ns ns hv b (closing (length ns) (again r (rounds body k)))) d
      go rec (value v ρ) d q =
          let mt : Meets X (it ∷ c.hs.its) c.hs.hands q.0 = record { its = li; hands = lh; slots = rel-length E q.2 ∙ ap depth (sym ln) } in
          subst (λ (z : Conf). Ev E (Done E (up_till (suc k) c) true ns ns hv b (closing (length ns) (rounds body k ρ))) z) (sym q.1) (dropped κ v dr mt (counted c k (closing (length ns) (rounds body k ρ)) (level mt refl j) (jumped (mach E [] (more_its c.hs it (depth ns)) q.0) j refl) (rec ρ q.0 q.2)))
      go rec (broke v ρ) d q = done (q.0.0, q.0.1, q.0.2, q.0.3)
      go rec (continued ρ) d q = counted c k (closing (length ns) (rounds body k ρ)) q.0.1 q.0.2 (rec ρ q.0.0 (kept ρ.env q.1 q.0.3))
      go rec (returned v ρ) d q = done q
      go rec (fault h p ρ) d q =
          let z = closes E {js = c.hs.vars} bl (forgets E 1 (depth ns ∷ c.hs.vars) refl q.4) in
          done (
            q.0,
            q.1,
            q.2,
            q.3,
            subst₂ (λ (s : List Scope) (l : List Slot). Rel E c.hs.vars ns s l) (keep-keep (length ns) (suc (length ns)) ρ.env (omega arith) ∙ sym (keep-keep (length ns) (length ns) ρ.env (omega arith))) (take-take (depth ns) (1 + depth ns) q.2 (omega arith)) z,
            keep-length ρ.env (length ns) q.5,
            sym (keep-keep (length c.hs.its) (suc (length c.hs.its)) q.1 (omega arith)) ∙ ap (keep (length c.hs.its)) q.6 ∙ keep-cons it c.hs.its,
          )
      go rec (waits n A ρ) d q = done q
      go rec spent d q = done q

  -- ## Leaving for a loop's place
  broken : {i : List Bytes} {r : Scopes} {bl cl F : Frame} {b n v : ℕ} {σ : St} {live : List Slot} (c : Ctx) (l : LoopAt) (a : ℕ) → Leave (layout E) l.hasv l l.bdrops l.bns (in_scopes (i ∷ r) c) a l.brk → Low (Some l) c.its c.hands F bl cl r → Rel E F.vars (i ∷ r) σ.env live → Fits l.hasv v
      → Ev E (Done E (here (Some l) bl cl F n) true (i ∷ r) (i ∷ r) false b (broke v σ)) (conf (ready a (mach E (push l.hasv v) F live)) σ.world)
  broken {i} {r} {bl} {F} {v} {live} c l a z lo h fit =
      left (in_scopes (i ∷ r) c) F bl l.hasv l l.bdrops l.bns z (push-length l.hasv v) (meets (in_scopes (i ∷ r) c) lo h) lo.low.2 lo.low.3 (let e = ends-depth lo.low.0 in omega arith)
      (λ u x j mt. act mt (push-length l.hasv v) j (done ((take (depth l.bns) live, refl, drop_to E (under lo.low.0) lo.low.8 (forgets E l.bdrops F.vars lo.low.6 h), fit), rel-scopes E h)))

  pub breaks : {i : List Bytes} {r : Scopes} {bl cl F : Frame} {b n : ℕ} {σ : St} {live : List Slot} (c : Ctx) (L : Option LoopAt) (a : ℕ) → Break (layout E) L None (in_scopes (i ∷ r) c) a → Low L c.its c.hands F bl cl r → Rel E F.vars (i ∷ r) σ.env live
      → Ev E (Done E (here L bl cl F n) true (i ∷ r) (i ∷ r) false b (broke 0 σ)) (conf (ready a (mach E [] F live)) σ.world)
  breaks c None a z lo h = absurd z
  breaks {i} {r} c (Some l) a z lo h = blanked l.hasv z.1 (meets (in_scopes (i ∷ r) c) lo h) (λ fit. broken c l z.0 z.2 lo h fit)

  pub breaks_with : {i : List Bytes} {r : Scopes} {bl cl F : Frame} {b n : ℕ} {σ : St} {live : List Slot} (c : Ctx) (L : Option LoopAt) (e : Exp) (a : ℕ) → Break (layout E) L (Some e) (in_scopes (i ∷ r) c) a → Low L c.its c.hands F bl cl r → Rel E F.vars (i ∷ r) σ.env live
      → Ev E (Done E (here L bl cl F n) true (i ∷ r) (i ∷ r) false b (bind_g (reading seek sets_inner (E.W.reading e.number) (around F) σ) broke)) (conf (ready a (mach E [] F live)) σ.world)
  breaks_with c None e a z lo h = absurd z
  breaks_with {i} {r} {bl} {cl} {F} {b} {n} c (Some l) e a z lo h = evaluated e.number z.3 h (λ v σ' live' h'. act (meets (in_scopes (i ∷ r) c) lo h') refl (op z.4)
      (subst (λ (κ : Bool). Ev E (Done E (here (Some l) bl cl F n) true (i ∷ r) (i ∷ r) false b (broke v σ')) (conf (ready z.1 (mach E (push κ v) F live')) σ'.world)) z.2
      (broken c l z.1 (subst (λ (κ : Bool). Leave (layout E) κ l l.bdrops l.bns (in_scopes (i ∷ r) c) z.1 l.brk) (sym z.2) z.5) lo h' (subst (λ (κ : Bool). Fits κ v) (sym z.2) tt))))

  pub continues : {i : List Bytes} {r : Scopes} {bl cl F : Frame} {b n : ℕ} {σ : St} {live : List Slot} (c : Ctx) (L : Option LoopAt) (a : ℕ) → Continue (layout E) L (in_scopes (i ∷ r) c) a → Low L c.its c.hands F bl cl r → Rel E F.vars (i ∷ r) σ.env live
      → Ev E (Done E (here L bl cl F n) true (i ∷ r) (i ∷ r) false b (continued σ)) (conf (ready a (mach E [] F live)) σ.world)
  continues c None a z lo h = absurd z
  continues {i} {r} {bl} {cl} {F} {live} c (Some l) a z lo h =
      left (in_scopes (i ∷ r) c) F cl false l l.cdrops l.cns z refl (meets (in_scopes (i ∷ r) c) lo h) lo.low.4 lo.low.5 (let e = ends-depth lo.low.1 in omega arith)
      (λ u x j mt. done ((take (depth l.cns) live, level mt refl j, jumped (mach E [] cl (take (depth l.cns) live)) j refl, drop_to E (under lo.low.1) lo.low.9 (forgets E l.cdrops F.vars lo.low.7 h)), rel-scopes E h))

  -- ## The end of a `do`
  pub doing : {m top b : ℕ} {hv : Bool} {v k : ℕ} {κ : Bool} {w : ℕ} {σ : St} {live : List Slot} (X : Ctx) (c : Cx) (f : ℕ) (p : Position) (u : Bool) → length c.hs.its ≡ X.its → length c.hs.hands ≡ X.hands → DoTest (layout E) u p X top m f → Glue (layout E) false hv X f b → Rel E c.hs.vars X.ns σ.env live
      → Ev E (Done E (inner c (loop top b hv X.ns) k) true X.ns X.ns κ w (round_on u (truth v) p σ)) (conf (ready m (mach E (v ∷ []) c.hs live)) σ.world)
  doing {m} {top} {b} {hv} {v} {k} {κ} {w} {σ} {live} X c f p u li lh z g h = go u z (truth v) (λ t. branch-is t p v (mach E [] c.hs live))
    where
      mt : Meets X c.hs.its c.hs.hands live
      mt = record { its = li; hands = lh; slots = rel-length E h }

      away : Ev E (Done E (inner c (loop top b hv X.ns) k) true X.ns X.ns κ w (broke 0 σ)) (conf (ready f (mach E [] c.hs live)) σ.world)
      away = glued false hv 0 g mt refl (λ fit. done ((live, refl, kept_all h, fit), rel-scopes E h))

      go : (u : Bool) → DoTest (layout E) u p X top m f → (y : Truth) → ((t : ℕ) → branch false t p v (mach E [] c.hs live) ≡ jumps y t p (mach E [] c.hs live))
          → Ev E (Done E (inner c (loop top b hv X.ns) k) true X.ns X.ns κ w (round_on u y p σ)) (conf (ready m (mach E (v ∷ []) c.hs live)) σ.world)
      go false z yes q = act_to _ mt refl (op z.2) (q f) (done ((live, level mt refl (op z.3), jumped (mach E [] c.hs live) (op z.3) refl, kept_all h), rel-scopes E h))
      go false z no q = act_to _ mt refl (op z.2) (q f) away
      go false z neither q = act_to _ mt refl (op z.2) (q f) (thrown [] live h refl)
      go true z yes q = act_to _ mt refl (op z) (q top) away
      go true z no q = done ((live, level mt refl (op z), jumped (mach E (v ∷ []) c.hs live) (op z) (q top), kept_all h), rel-scopes E h)
      go true z neither q = act_to _ mt refl (op z) (q top) (thrown [] live h refl)

-- ## Handlers

module _ (E : Env) where
  out-brk : (L : Option LoopAt) (F : Frame) (v : ℕ) (σ : St) (d : Conf) → BrokeAt E (deeper_loop L) F v σ d → BrokeAt E L F v σ d
  out-brk None F v σ d q = q
  out-brk (Some l) F v σ d q = q

  out-cnt : (L : Option LoopAt) (F : Frame) (σ : St) (d : Conf) → ContAt E (deeper_loop L) F σ d → ContAt E L F σ d
  out-cnt None F σ d q = q
  out-cnt (Some l) F σ d q = q

  -- A handler in catch is discarded by a throw.
  passed : (h : ℕ) (p : Position) (vs is : List ℕ) (H : Handler) (hs : List Handler) (live : List Slot) → catches h p (tossed E vs is (caught H ∷ hs) live) ≡ catches h p (tossed E vs is hs live)
  passed h p vs is H hs live = go (roused hs)
    where
      go : (rs : List Handler) → landing rs h p (tossed E vs is (caught H ∷ hs) live) ≡ landing rs h p (tossed E vs is hs live)
      go [] = refl
      go (K ∷ rs) = refl

  -- A throw lands at the newest armed handler.
  lands : (h : ℕ) (p : Position) (vs is il : List ℕ) (t : ℕ) (nm : Option ℕ) (d : ℕ) (hs : List Handler) (live : List Slot) → d ≤ length live → keep (length il) is ≡ il → NameRoom E nm d
      → catches h p (tossed E vs is (record { armed = true; target = t; name = nm; values = 0; slots = d; iters = length il } ∷ hs) live)
      ≡ goto t (tossed E [] il (record { armed = false; target = t; name = nm; values = 0; slots = d; iters = length il } ∷ hs) (with_name nm h (take d live)))
  lands h p vs is il t nm d hs live le k rm =
      let li : length il ≤ length is = let z = ap length k in let y = length-drop (length is - length il) is in omega arith in
      fit (le-leb 0 (length vs) (omega arith)) (le-leb d (length live) le) (le-leb (length il) (length is) li)
      ∙ ap₂ (λ (v i : List ℕ). naming_m nm t h (tossed E v i (K ∷ hs) (take d live))) (keep-none vs) k ∙ name nm rm
    where
      K : Handler
      K = record { armed = false; target = t; name = nm; values = 0; slots = d; iters = length il }

      fit : leb 0 (length vs) ≡ true → leb d (length live) ≡ true → leb (length il) (length is) ≡ true → cond (cond (leb 0 (length vs)) (cond (leb d (length live)) (leb (length il) (length is)) false) false) (naming_m nm t h (tossed E (keep 0 vs) (keep (length il) is) (K ∷ hs) (take d live))) stuck ≡ naming_m nm t h (tossed E (keep 0 vs) (keep (length il) is) (K ∷ hs) (take d live))
      fit e₁ e₂ e₃ = ap₂ (λ (a b : Bool). cond (cond a (cond b (leb (length il) (length is)) false) false) (naming_m nm t h (tossed E (keep 0 vs) (keep (length il) is) (K ∷ hs) (take d live))) stuck) e₁ e₂ ∙ ap (λ (a : Bool). cond a (naming_m nm t h (tossed E (keep 0 vs) (keep (length il) is) (K ∷ hs) (take d live))) stuck) e₃

      name : (nm' : Option ℕ) → NameRoom E nm' d → naming_m nm' t h (tossed E [] il (K ∷ hs) (take d live)) ≡ goto t (tossed E [] il (K ∷ hs) (with_name nm' h (take d live)))
      name None r = refl
      name (Some x) r =
          let lt : length (take d live) < E.room = let z = length-take d live in omega arith in
          ap (λ (a : Bool). cond a (goto t (tossed E [] il (K ∷ hs) (take d live ++ record { name = x; handle = h; constant = false } ∷ []))) stuck) (lt-ltb (length (take d live)) E.room lt)

module _ {E : Env} where
  -- The end of a catch block.
  pub unhand : {d : Conf} {L : Option LoopAt} {bl cl F : Frame} {n : ℕ} {κ : Bool} {q l b : ℕ} {r : Out} (X : Ctx) (H : Handler) → length F.its ≡ X.its → length F.hands ≡ X.hands → Ins E PopHandler nowhere (heights 0 (in_try_code X)) q l → Glue (layout E) false κ X l b
      → Ev E (Done E (here (deeper_loop L) bl cl (more_hands (caught H) F) n) true X.ns X.ns false q r) d → Ev E (Done E (here L bl cl F n) true X.ns X.ns κ b r) d
  unhand {L} {bl} {cl} {F} {n} {κ} {q} {l} {b} {r} X H li lh i g t = next-then t (λ d y. go r d y.is)
    where
      go : (r : Out) (d : Conf) → Exit E (here (deeper_loop L) bl cl (more_hands (caught H) F) n) true X.ns X.ns false q r d → Ev E (Done E (here L bl cl F n) true X.ns X.ns κ b r) d
      go (value v σ) d y =
          let mt : Meets (in_try_code X) F.its (caught H ∷ F.hands) y.0 = record { its = li; hands = ap suc lh; slots = rel-length E y.2 } in
          let mt' : Meets X F.its F.hands y.0 = record { its = li; hands = lh; slots = rel-length E y.2 } in
          subst (λ (z : Conf). Ev E (Done E (here L bl cl F n) true X.ns X.ns κ b (value v σ)) z) (sym y.1) (act mt refl i (glued false κ v g mt' y.3 (λ f. done (y.0, refl, y.2, f))))
      go (broke v σ) d y = done (out-brk E L bl v σ d y.0, y.1)
      go (continued σ) d y = done (out-cnt E L cl σ d y.0, y.1)
      go (returned v σ) d y = done y
      go (fault h p σ) d y = done (y.0, y.1, y.2, y.3 ∙ ap (λ (e : Effect). conf (landed e) σ.world) (passed E h p y.0 y.1 H F.hands y.2), y.4, y.5, y.6)
      go (waits k A σ) d y = done y
      go spent d y = done y

  -- The try body, with what is to be done on a fault.
  pub tried : {d : Conf} {L : Option LoopAt} {bl cl F : Frame} {n c : ℕ} {nm : Option ℕ} {κ : Bool} {v w z b : ℕ} {r : Out} {k : ℕ → St → Out} (X : Ctx) (s : ℕ) → s ≡ depth X.ns → length F.its ≡ X.its → length F.hands ≡ X.hands → NameRoom E nm (depth X.ns)
      → Ins E PopHandler nowhere (heights (one κ) (in_try_code X)) v w → Ins E (Jump b) nowhere (heights (one κ) X) w z
      → Ev E (Done E (here (deeper_loop L) bl cl (more_hands (record { armed = true; target = c; name = nm; values = 0; slots = s; iters = length F.its }) F) n) true X.ns X.ns κ v r) d
      → ((h : ℕ) (ρ : St) (live : List Slot) → Rel E F.vars X.ns ρ.env live → Ev E (Done E (here L bl cl F n) true X.ns X.ns κ b (k h ρ)) (conf (ready c (tossed E [] F.its (record { armed = false; target = c; name = nm; values = 0; slots = s; iters = length F.its } ∷ F.hands) (with_name nm h live))) ρ.world))
      → Ev E (Done E (here L bl cl F n) true X.ns X.ns κ b (catching r k)) d
  tried {L} {bl} {cl} {F} {n} {c} {nm} {κ} {v} {w} {z} {b} {r} {k} X s es li lh rm i j t f = next-then t (λ d y. go r d y.is)
    where
      go : (r : Out) (d : Conf) → Exit E (here (deeper_loop L) bl cl (more_hands (record { armed = true; target = c; name = nm; values = 0; slots = s; iters = length F.its }) F) n) true X.ns X.ns κ v r d → Ev E (Done E (here L bl cl F n) true X.ns X.ns κ b (catching r k)) d
      go (value u σ) d y =
          let mt : Meets (in_try_code X) F.its (record { armed = true; target = c; name = nm; values = 0; slots = s; iters = length F.its } ∷ F.hands) y.0 = record { its = li; hands = ap suc lh; slots = rel-length E y.2 } in
          let mt' : Meets X F.its F.hands y.0 = record { its = li; hands = lh; slots = rel-length E y.2 } in
          subst (λ (x : Conf). Ev E (Done E (here L bl cl F n) true X.ns X.ns κ b (value u σ)) x) (sym y.1) (act mt (push-length κ u) i (act mt' (push-length κ u) j (done (y.0, refl, y.2, y.3))))
      go (broke u σ) d y = done (out-brk E L bl u σ d y.0, y.1)
      go (continued σ) d y = done (out-cnt E L cl σ d y.0, y.1)
      go (returned u σ) d y = done y
      go (fault h p σ) d y =
          let tk : length (take (depth X.ns) y.2) ≡ depth X.ns = rel-length E y.4 in
          let le : depth X.ns ≤ length y.2 = let g = length-take (depth X.ns) y.2 in omega arith in
          let e = lands E h p y.0 y.1 F.its c nm s F.hands y.2 (omega arith) y.6 (subst (λ (q : ℕ). NameRoom E nm q) (sym es) rm) in
          subst (λ (x : Conf). Ev E (Done E (here L bl cl F n) true X.ns X.ns κ b (k h σ)) x) (sym (y.3 ∙ ap (λ (g : Effect). conf (landed g) σ.world) e))
          (f h σ (take s y.2) (subst (λ (q : ℕ). Rel E F.vars X.ns σ.env (take q y.2)) (sym es) (kept σ.env y.5 y.4)))
      go (waits q A σ) d y = done y
      go spent d y = done y
