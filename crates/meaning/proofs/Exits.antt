-- What the fed player comes to, by what the tree's run comes to; and how the parts of a run join.
use Rattle.std.proofs.Common.{◌≡◌, ℕ, zero, suc, ◌+◌, ◌-◌, ◌<◌, ◌≤◌, Bool, true, false, cond, eqb, List, [], ◌∷◌, ◌++◌, length, take, Some, None, Option, sym, refl, ap, ◌∙◌, subst, ap₂, subst₂, inl, inr, arith, length-take, take_all, take-take, le-leb}
use borrow.Author.Tests.{both_ways}
use Rattle.records.specs.declared.types.Position.{Position}
use Rattle.records.specs.Tree.{nowhere}
use Rattle.code.specs.declared.ops.Op.{Op}
use Rattle.code.specs.declared.ops.Op.TheVariants.{Jump, JumpIfFalse, UnwindTo}
use Rattle.code.specs.declared.talk.Slot.{Slot}
use Rattle.code.specs.declared.talk.Handler.{Handler}
use Rattle.code.specs.declared.talk.Question.{Question}
use Rattle.code.specs.declared.talk.Purpose.{Purpose}
use Rattle.code.specs.declared.talk.Answer.TheVariants.{Value, Done as DoneAnswer}
use Rattle.code.specs.declared.talk.End.TheVariants.{Value as Gives}
use Rattle.meaning.specs.Machine.{Locals, Mach, Effect, Effect.next, Effect.goto, Effect.fault as faults, Effect.stuck, branch, exec, resume}
use Rattle.meaning.specs.Throws.{keep, catches}
use Rattle.meaning.specs.Calls.{State, State.ready, State.waits as waiting, State.ended, State.halted, instr_at, landed, after}
use Rattle.meaning.specs.Reading.{Bytes, Ask, valued, doable, Scope, seek, sets_inner, World, st, Around, Heard.value as heard_v, Heard.done as heard_d, Heard.fault as heard_f, Heard.waits as heard_w, asks, Truth, Truth.yes, Truth.no, Truth.neither, truth, Got as GotOf, Got.got, Got.bad, Got.dry, gotten, reading}
use Rattle.meaning.specs.Run.{St, Got, Heard, Out, Out.value, Out.broke, Out.continued, Out.returned, Out.fault, Out.waits, Out.spent, bind_g, bind_v, bind_n, closing, closed as closed_st, test}
use Rattle.meaning.specs.Fed.{in_words, find_slot, poke_slot, Conf, conf, move, Comes, Comes.here, Comes.then, Goes}
use Rattle.meaning.specs.Writer.{Inside, Settles}
use Rattle.meaning.specs.Agreement.{Alike, Heights, armed, heights_of}
use Rattle.meaning.proofs.Place.{Scopes, depth, Ctx, LoopAt, Layout, heights, one, in_scopes, less_hands, less_iters, up_to, Hop, Glue, Drop, Pops, Drops, Unwind, Leave, Blank}
use Rattle.meaning.proofs.Layouts.{set_layout, Level}
use Rattle.meaning.proofs.Slots.{keep-keep, keep_all, keep-length, Below}
use Rattle.meaning.proofs.Rel.{Env, locals, Rel, rel-length, rel-scopes, look-agrees, closes, whole, Ends, ends-le, Over}
use Rattle.meaning.proofs.Hear.{Frame, mach, around, Lev, Ev, Ins, After, level-at, ins_to, next-then, hop, Hears, HeardAt, Suits, hear, SameGot, reading-same}

-- ## Goals

-- The loop around with its frames, the frame here, the moves promised of a run that is spent.
pub record Cx : Type 0 where
  pub lp : Option LoopAt
  pub bl : Frame
  pub cl : Frame
  pub hs : Frame
  pub n : ℕ

abbrev pub up_till : ℕ → Cx → Cx
up_till k c = record { lp = c.lp; bl = c.bl; cl = c.cl; hs = c.hs; n = k }

abbrev pub push : Bool → ℕ → List ℕ
push true v = v ∷ []
push false v = []

abbrev pub Fits : Bool → ℕ → Type 0
Fits true v = Unit {0}
Fits false v = v ≡ 0

-- The scopes open on an abrupt leaving: of a statement those of its start, of a block's list one more.
abbrev pub Left : Bool → Scopes → List Scope → Type 0
Left true rs ss = length ss ≡ length rs
Left false rs ss = length ss ≡ suc (length rs)

-- The player with other iterators than those of its frame.
abbrev pub tossed : Env → List ℕ → List ℕ → List Handler → List Slot → Mach
tossed E vs is hs live = record { values = vs; iters = is; handlers = hs; slots = locals E live }

abbrev pub layout : Env → Layout
layout E = set_layout E.code E.rows E.T E.W E.room E.H E.free

abbrev pub AlikeIn : Env → List Scope → Locals → Type 0
AlikeIn E ss l = Alike E.T ss l

module _ (E : Env) where
  abbrev pub BrokeAt : Option LoopAt → Frame → ℕ → St → Conf → Type 0
  BrokeAt None F v σ d = ⊥
  BrokeAt (Some l) F v σ d = (live : List Slot) × (d ≡ conf (ready l.brk (mach E (push l.hasv v) F live)) σ.world) × Rel E F.vars l.bns (keep (length l.bns) σ.env) live × Fits l.hasv v

  -- One move before the place of a `continue`.
  abbrev pub ContAt : Option LoopAt → Frame → St → Conf → Type 0
  ContAt None F σ d = ⊥
  ContAt (Some l) F σ d = (live : List Slot) × Lev E d × (move E.code E.rows E.T d ≡ Some (conf (ready l.cont (mach E [] F live)) σ.world)) × Rel E F.vars l.cns (keep (length l.cns) σ.env) live

  abbrev pub Exit : Cx → Bool → Scopes → Scopes → Bool → ℕ → Out → Conf → Type 0
  Exit c sh rs ns κ b (value v σ) d = (live : List Slot) × (d ≡ conf (ready b (mach E (push κ v) c.hs live)) σ.world) × Rel E c.hs.vars ns σ.env live × Fits κ v
  Exit c sh rs ns κ b (broke v σ) d = BrokeAt c.lp c.bl v σ d × Left sh rs σ.env
  Exit c sh rs ns κ b (continued σ) d = ContAt c.lp c.cl σ d × Left sh rs σ.env
  Exit c sh rs ns κ b (returned v σ) d = d ≡ conf (ended (Gives v)) σ.world
  Exit c sh rs ns κ b (fault h p σ) d =
      (vs is : List ℕ) × (live : List Slot) × (d ≡ conf (landed (catches h p (tossed E vs is c.hs.hands live))) σ.world)
      × Rel E c.hs.vars rs (keep (length rs) σ.env) (take (depth rs) live) × Left sh rs σ.env × (keep (length c.hs.its) is ≡ c.hs.its)
  Exit c sh rs ns κ b (waits q A σ) d =
      (k : Question) × (u : Purpose) × (i : ℕ) × (m : Mach) × (d ≡ conf (waiting k u i m) σ.world) × (in_words E.T k ≡ q) × AlikeIn E σ.env m.slots × (m.iters ≡ A.iters) × (armed m.handlers ≡ A.tries)
  Exit c sh rs ns κ b spent d = Goes E.code E.rows E.T (Lev E) c.n d

  -- The same, as a type that keeps its arguments.
  pub record Done (c : Cx) (sh : Bool) (rs ns : Scopes) (κ : Bool) (b : ℕ) (r : Out) (d : Conf) : Type 0 where
    pub is : Exit c sh rs ns κ b r d

-- ## Where code stands among loops and handlers

abbrev pub LowAt : Option LoopAt → Frame → Frame → Frame → Scopes → Type 0
LowAt None F bl cl r = Unit {0}
LowAt (Some l) F bl cl r =
    Ends l.bns r × Ends l.cns r × Over l.pops F.hands bl.hands × Over l.bdrops F.its bl.its × Over l.pops F.hands cl.hands × Over l.cdrops F.its cl.its
    × Over l.bdrops F.vars bl.vars × Over l.cdrops F.vars cl.vars × Below bl.vars (depth l.bns) × Below cl.vars (depth l.cns)

pub record Low (L : Option LoopAt) (it hd : ℕ) (F bl cl : Frame) (r : Scopes) : Type 0 where
  pub low : LowAt L F bl cl r
  pub base : Below F.vars (depth r)
  pub its : length F.its ≡ it
  pub hands : length F.hands ≡ hd

-- The player's heights are those of the code.
pub record Meets (c : Ctx) (is : List ℕ) (hs : List Handler) (live : List Slot) : Type 0 where
  pub its : length is ≡ c.its
  pub hands : length hs ≡ c.hands
  pub slots : length live ≡ depth c.ns

pub over-length : {A : Type 0} (n : ℕ) (xs ys : List A) → Over n xs ys → length ys ≡ length xs - n
over-length zero xs ys o = let z = ap length o in omega arith
over-length (suc n) [] ys o = absurd o
over-length (suc n) (x ∷ xs) ys o = let z = over-length n xs ys o in omega arith

pub push-length : (κ : Bool) (v : ℕ) → length (push κ v) ≡ one κ
push-length true v = refl
push-length false v = refl

-- What a conditional jump comes to.
abbrev pub jumps : Truth → ℕ → Position → Mach → Effect
jumps yes t p m = next m
jumps no t p m = goto t m
jumps neither t p m = faults 3 p m

pub branch-is : (t : ℕ) (p : Position) (v : ℕ) (m : Mach) → branch false t p v m ≡ jumps (truth v) t p m
branch-is t p v m = go (eqb v 1) (eqb v 2)
  where
    go : (x y : Bool) → cond x (cond false (next m) (goto t m)) (cond y (cond false (goto t m) (next m)) (faults 3 p m)) ≡ jumps (cond x no (cond y yes neither)) t p m
    go true y = refl
    go false true = refl
    go false false = refl

module _ (E : Env) where
  goes-pred : (n : ℕ) (d : Conf) → Goes E.code E.rows E.T (Lev E) (suc n) d → Goes E.code E.rows E.T (Lev E) n d
  goes-pred zero d a = tt
  goes-pred (suc n) d a = (a.0, a.1, a.2, goes-pred n a.0 a.3)

  pub lives : (n : ℕ) {d : Conf} → Ev E (Goes E.code E.rows E.T (Lev E) n) d → Goes E.code E.rows E.T (Lev E) n d
  lives n (here q) = q
  lives n (then {c} {d} l e t) = goes-pred n c (d, l, e, lives n t)

  meet : {v : ℕ} {c : Ctx} (vs : List ℕ) {is : List ℕ} {hs : List Handler} {live : List Slot} → Meets c is hs live → length vs ≡ v → heights_of (tossed E vs is hs live) ≡ heights v c
  meet {v} {c} vs {is} {hs} {live} m e = same e m.slots m.its m.hands
    where
      same : {a b c d a' b' c' d' : ℕ} → a ≡ a' → b ≡ b' → c ≡ c' → d ≡ d' → ◌≡◌ {A = Heights} (record { values = a; slots = b; iters = c; handlers = d }) (record { values = a'; slots = b'; iters = c'; handlers = d' })
      same p q r s = cc

module _ {E : Env} where
  -- An operation of set code, as a type that keeps its arguments.
  pub op : {o : Op} {p : Position} {h : Heights} {a b : ℕ} → (instr_at E.code a ≡ record { op = o; at = p }) × (suc a ≡ b) × (E.H a ≡ h) → Ins E o p h a b
  op z = record { op = z.0; to = z.1; met = z.2 }

  -- An operation met at the heights of its code.
  pub level : {v : ℕ} {c : Ctx} {vs is : List ℕ} {hs : List Handler} {live : List Slot} {w : World} {o : Op} {p : Position} {a b : ℕ} → Meets c is hs live → length vs ≡ v → Ins E o p (heights v c) a b → Lev E (conf (ready a (tossed E vs is hs live)) w)
  level {vs} m l i = level-at i (meet E vs m l)

  pub act_to : {Q : Conf → Type 0} {v : ℕ} {c : Ctx} {vs is : List ℕ} {hs : List Handler} {live : List Slot} {w : World} {o : Op} {p : Position} {a b : ℕ} (e : Effect) → Meets c is hs live → length vs ≡ v → Ins E o p (heights v c) a b → exec E.rows o p (tossed E vs is hs live) ≡ e → After E Q e a b w → Ev E Q (conf (ready a (tossed E vs is hs live)) w)
  act_to {vs} e m l i x t = ins_to e i (meet E vs m l) x t

  pub act : {Q : Conf → Type 0} {v : ℕ} {c : Ctx} {vs is : List ℕ} {hs : List Handler} {live : List Slot} {w : World} {o : Op} {p : Position} {a b : ℕ} → Meets c is hs live → length vs ≡ v → Ins E o p (heights v c) a b → After E Q (exec E.rows o p (tossed E vs is hs live)) a b w → Ev E Q (conf (ready a (tossed E vs is hs live)) w)
  act m l i t = act_to _ m l i refl t

  pub meets : {js : List ℕ} {L : Option LoopAt} {F bl cl : Frame} {r : Scopes} {ss : List Scope} {live : List Slot} (c : Ctx) → Low L c.its c.hands F bl cl r → Rel E js c.ns ss live → Meets c F.its F.hands live
  meets c lo h = record { its = lo.its; hands = lo.hands; slots = rel-length E h }

  pub done : {c : Cx} {sh : Bool} {rs ns : Scopes} {κ : Bool} {b : ℕ} {r : Out} {d : Conf} → Exit E c sh rs ns κ b r d → Ev E (Done E c sh rs ns κ b r) d
  done q = here (record { is = q })

  -- ## Small pieces of code
  pub hops : {Q : Conf → Type 0} {v a b : ℕ} {c : Ctx} {vs is : List ℕ} {hs : List Handler} {live : List Slot} {w : World} → Hop (layout E) v c a b → length vs ≡ v → Meets c is hs live → Ev E Q (conf (ready b (tossed E vs is hs live)) w) → Ev E Q (conf (ready a (tossed E vs is hs live)) w)
  hops (inl e) l m t = hop e t
  hops (inr i) l m t = act m l (op i.1) t

  pub dropped : {Q : Conf → Type 0} {a b : ℕ} {c : Ctx} {is : List ℕ} {hs : List Handler} {live : List Slot} {w : World} (κ : Bool) (v : ℕ) → Drop (layout E) κ c a b → Meets c is hs live → Ev E Q (conf (ready b (tossed E [] is hs live)) w) → Ev E Q (conf (ready a (tossed E (push κ v) is hs live)) w)
  dropped true v i m t = act m refl (op i) t
  dropped false v e m t = hop e t

  pub glued : {Q : Conf → Type 0} {a b : ℕ} {c : Ctx} {is : List ℕ} {hs : List Handler} {live : List Slot} {w : World} (κ κ' : Bool) (v : ℕ) → Glue (layout E) κ κ' c a b → Meets c is hs live → Fits κ v → (Fits κ' v → Ev E Q (conf (ready b (tossed E (push κ' v) is hs live)) w)) → Ev E Q (conf (ready a (tossed E (push κ v) is hs live)) w)
  glued false false v g m h t = hops g refl m (t h)
  glued {Q} {b} {is} {hs} {live} {w} false true v g m h t = hops g.2 refl m (act m refl (op g.3) (hops g.4 refl m (subst (λ (x : ℕ). Ev E Q (conf (ready b (tossed E (x ∷ []) is hs live)) w)) h (t tt))))
  glued true true v g m h t = hops g refl m (t h)
  glued true false v g m h t = absurd g

  pub blanked : {Q : Conf → Type 0} {a b : ℕ} {c : Ctx} {is : List ℕ} {hs : List Handler} {live : List Slot} {w : World} (κ : Bool) → Blank (layout E) κ c a b → Meets c is hs live → (Fits κ 0 → Ev E Q (conf (ready b (tossed E (push κ 0) is hs live)) w)) → Ev E Q (conf (ready a (tossed E [] is hs live)) w)
  blanked false e m t = hop e (t refl)
  blanked true z m t = act m refl (op z.1) (act m refl (op z.2) (t tt))

  pub popped : {Q : Conf → Type 0} {v b : ℕ} {vs is : List ℕ} {hl : List Handler} {live : List Slot} {w : World} (n a : ℕ) (c : Ctx) (hs : List Handler) → Pops (layout E) v n c a b → length vs ≡ v → Meets c is hs live → Over n hs hl → Ev E Q (conf (ready b (tossed E vs is hl live)) w) → Ev E Q (conf (ready a (tossed E vs is hs live)) w)
  popped {Q} {vs} {is} {live} {w} zero a c hs e l m o t = subst (λ (x : List Handler). Ev E Q (conf (ready a (tossed E vs is x live)) w)) (sym o) (hop e t)
  popped (suc n) a c [] p l m o t = absurd o
  popped (suc n) a c (H ∷ hs) p l m o t = act m l (op p.1) (popped n p.0 (less_hands c) hs p.2 l (record { its = m.its; hands = (let z = m.hands in omega arith); slots = m.slots }) o t)

  pub undropped : {Q : Conf → Type 0} {v b : ℕ} {vs il : List ℕ} {hs : List Handler} {live : List Slot} {w : World} (n a : ℕ) (c : Ctx) (is : List ℕ) → Drops (layout E) v n c a b → length vs ≡ v → Meets c is hs live → Over n is il → Ev E Q (conf (ready b (tossed E vs il hs live)) w) → Ev E Q (conf (ready a (tossed E vs is hs live)) w)
  undropped {Q} {vs} {hs} {live} {w} zero a c is e l m o t = subst (λ (x : List ℕ). Ev E Q (conf (ready a (tossed E vs x hs live)) w)) (sym o) (hop e t)
  undropped (suc n) a c [] p l m o t = absurd o
  undropped (suc n) a c (i ∷ is) p l m o t = act m l (op p.1) (undropped n p.0 (less_iters c) is p.2 l (record { its = (let z = m.its in omega arith); hands = m.hands; slots = m.slots }) o t)

  -- Slots are dropped down to so many.
  pub unwound : {Q : Conf → Type 0} {p : Position} {v a b n : ℕ} {c : Ctx} {vs is : List ℕ} {hs : List Handler} {live : List Slot} {w : World} → Meets c is hs live → length vs ≡ v → Ins E (UnwindTo n) p (heights v c) a b → n ≤ length live → Ev E Q (conf (ready b (tossed E vs is hs (take n live))) w) → Ev E Q (conf (ready a (tossed E vs is hs live)) w)
  unwound {n} {vs} {is} {hs} {live} m e i l t = act_to (next (tossed E vs is hs (take n live))) m e i (ap (λ (x : Bool). cond x (next (tossed E vs is hs (take n live))) stuck) (le-leb n (length live) l)) t

  -- Out of a loop, or back to its top.
  pub left : {Q : Conf → Type 0} {a t : ℕ} {vs : List ℕ} {live : List Slot} {w : World} (c : Ctx) (F hl : Frame) (κ : Bool) (l : LoopAt) (d : ℕ) (to : Scopes) → Leave (layout E) κ l d to c a t → length vs ≡ one κ → Meets c F.its F.hands live → Over l.pops F.hands hl.hands → Over d F.its hl.its → depth to ≤ depth c.ns
      → ((u x : ℕ) → Ins E (Jump t) nowhere (heights (one κ) (in_scopes to (up_to (layout E) l.pops d c))) u x → Meets (in_scopes to (up_to (layout E) l.pops d c)) hl.its hl.hands (take (depth to) live) → Ev E Q (conf (ready u (mach E vs hl (take (depth to) live))) w))
      → Ev E Q (conf (ready a (mach E vs F live)) w)
  left {vs} {live} c F hl κ l d to z e m o o' le f =
      let mh = m.hands in let mi = m.its in let ms = m.slots in
      let oh = over-length l.pops F.hands hl.hands o in let oi = over-length d F.its hl.its o' in
      let lt : length (take (depth to) live) ≡ depth to = length-take (depth to) live ∙ omega arith in
      let m₁ : Meets (up_to (layout E) l.pops 0 c) F.its hl.hands live = record { its = omega arith; hands = omega arith; slots = ms } in
      let m₂ : Meets (up_to (layout E) l.pops d c) hl.its hl.hands live = record { its = omega arith; hands = omega arith; slots = ms } in
      let m₃ : Meets (in_scopes to (up_to (layout E) l.pops d c)) hl.its hl.hands (take (depth to) live) = record { its = omega arith; hands = omega arith; slots = lt } in
      popped l.pops _ c F.hands z.4 e m o (undropped d z.0 (up_to (layout E) l.pops 0 c) F.its z.5 e m₁ o' (unwound m₂ e (op z.6) (omega arith) (f z.2 z.3 (op z.7) m₃)))

  -- ## Faults and questions that wait
  pub thrown : {c : Cx} {ns ns' : Scopes} {κ : Bool} {b h : ℕ} {p : Position} {σ : St} {d : Conf} (vs : List ℕ) (live : List Slot) → Rel E c.hs.vars ns σ.env live → d ≡ conf (landed (catches h p (mach E vs c.hs live))) σ.world → Ev E (Done E c true ns ns' κ b (fault h p σ)) d
  thrown {c} vs live r e = done (vs, c.hs.its, live, e, whole E r, rel-scopes E r, keep_all c.hs.its _ refl)

  pub idle : {c : Cx} {js : List ℕ} {ns ns' : Scopes} {κ : Bool} {b : ℕ} {q : Ask} {A : Around} {σ : St} {d : Conf} (k : Question) (u : Purpose) (i : ℕ) (vs : List ℕ) (live : List Slot) → Rel E js ns σ.env live → d ≡ conf (waiting k u i (mach E vs c.hs live)) σ.world → in_words E.T k ≡ q → A ≡ around c.hs
      → Ev E (Done E c true ns ns' κ b (waits q A σ)) d
  idle {c} k u i vs live r e f g = done (k, u, i, mach E vs c.hs live, e, f, (λ x l. look-agrees E _ r), sym (ap (λ (B : Around). B.iters) g), sym (ap (λ (B : Around). B.tries) g))

  -- ## A question
  pub asking : {js : List ℕ} {ns : Scopes} {vs : List ℕ} {F : Frame} {a : ℕ} {σ : St} {live : List Slot} (q : Question) (u : Purpose) (k : Ask) → Suits E q u → in_words E.T q ≡ k → Rel E js ns σ.env live
      → Ev E (Hears E js ns vs F q u a (asks seek sets_inner k (around F) σ)) (conf (waiting q u a (mach E vs F live)) (record { feed = σ.world.feed; asked = in_words E.T q ∷ σ.world.asked }))
  asking {js} {ns} {vs} {F} {a} {σ} {live} q u k s e r = subst (λ (x : Ask). Ev E (Hears E js ns vs F q u a (asks seek sets_inner x (around F) σ)) (conf (waiting q u a (mach E vs F live)) (record { feed = σ.world.feed; asked = in_words E.T q ∷ σ.world.asked }))) e (hear s σ.world.feed (in_words E.T q ∷ σ.world.asked) r)

  -- Its answer, and what follows.
  pub answered : {c : Cx} {js : List ℕ} {ns ns' : Scopes} {κ : Bool} {b : ℕ} {vs : List ℕ} {q : Question} {u : Purpose} {a : ℕ} {r : Heard} {k : ℕ → St → Out} {d : Conf} → ((ss : List Scope) (live : List Slot) → Rel E js ns ss live → Rel E c.hs.vars ns ss live) → Ev E (Hears E js ns vs c.hs q u a r) d
      → ((v : ℕ) (σ : St) (live : List Slot) → valued (in_words E.T q) ≡ true → Rel E js ns σ.env live → Ev E (Done E c true ns ns' κ b (k v σ)) (conf (after (resume u (Value v) (mach E vs c.hs live)) a) σ.world))
      → ((σ : St) (live : List Slot) → doable (in_words E.T q) ≡ true → Rel E js ns σ.env live → Ev E (Done E c true ns ns' κ b (k 0 σ)) (conf (after (resume u DoneAnswer (mach E vs c.hs live)) a) σ.world))
      → Ev E (Done E c true ns ns' κ b (bind_g (gotten r) k)) d
  answered {c} {js} {ns} {ns'} {κ} {b} {vs} {q} {u} {a} {r} {k} wk t f g = next-then t (λ x y. go r x y.is)
    where
      go : (r : Heard) (d : Conf) → HeardAt E js ns vs c.hs q u a r d → Ev E (Done E c true ns ns' κ b (bind_g (gotten r) k)) d
      go (heard_v v σ) d z = subst (λ (x : Conf). Ev E (Done E c true ns ns' κ b (k v σ)) x) (sym z.2) (f v σ z.0 z.1 z.3)
      go (heard_d σ) d z = subst (λ (x : Conf). Ev E (Done E c true ns ns' κ b (k 0 σ)) x) (sym z.2) (g σ z.0 z.1 z.3)
      go (heard_f h p σ) d z = thrown vs z.0 (wk σ.env z.0 z.2) z.1
      go (heard_w q' A σ) d z = idle q u a vs z.0 z.2 z.1 z.3 z.4

  -- The same, for an iterator's next item.
  pub advanced : {c : Cx} {js : List ℕ} {ns ns' : Scopes} {κ : Bool} {b : ℕ} {vs : List ℕ} {q : Question} {u : Purpose} {a : ℕ} {r : Heard} {k : ℕ → St → Out} {d : Conf} → ((ss : List Scope) (live : List Slot) → Rel E js ns ss live → Rel E c.hs.vars ns ss live) → Ev E (Hears E js ns vs c.hs q u a r) d
      → ((v : ℕ) (σ : St) (live : List Slot) → Rel E js ns σ.env live → Ev E (Done E c true ns ns' κ b (k v σ)) (conf (after (resume u (Value v) (mach E vs c.hs live)) a) σ.world))
      → ((σ : St) (live : List Slot) → Rel E js ns σ.env live → Ev E (Done E c true ns ns' κ b (broke 0 σ)) (conf (after (resume u DoneAnswer (mach E vs c.hs live)) a) σ.world))
      → Ev E (Done E c true ns ns' κ b (bind_n r k)) d
  advanced {c} {js} {ns} {ns'} {κ} {b} {vs} {q} {u} {a} {r} {k} wk t f g = next-then t (λ x y. go r x y.is)
    where
      go : (r : Heard) (d : Conf) → HeardAt E js ns vs c.hs q u a r d → Ev E (Done E c true ns ns' κ b (bind_n r k)) d
      go (heard_v v σ) d z = subst (λ (x : Conf). Ev E (Done E c true ns ns' κ b (k v σ)) x) (sym z.2) (f v σ z.0 z.3)
      go (heard_d σ) d z = subst (λ (x : Conf). Ev E (Done E c true ns ns' κ b (broke 0 σ)) x) (sym z.2) (g σ z.0 z.3)
      go (heard_f h p σ) d z = thrown vs z.0 (wk σ.env z.0 z.2) z.1
      go (heard_w q' A σ) d z = idle q u a vs z.0 z.2 z.1 z.3 z.4

  -- ## An expression
  inside-level : (a b high : ℕ) → ((i : ℕ) → a ≤ i → i < b → E.free i ≡ false) → (d : Conf) → Inside a b high d.state → Lev E d
  inside-level a b high f d i = record { level = go d.state i }
    where
      go : (s : State) → Inside a b high s → Level E.code E.rows E.T E.W E.room E.H E.free s
      go (ready i m) z = λ t. absurd (both_ways (E.free i) (f i z.0 z.1) t)
      go (waiting q u i m) z = tt
      go (ended e) z = tt
      go halted z = z

  through : {I Q R : Conf → Type 0} {d : Conf} → Comes E.code E.rows E.T I Q d → ((c : Conf) → I c → Lev E c) → ((c : Conf) → Q c → Ev E R c) → Ev E R d
  through (here q) f g = g _ q
  through (then {c} i e t) f g = then (f c i) e (through t f g)

  pub evaluated : {a m : ℕ} {c : Cx} {ns ns' : Scopes} {κ : Bool} {b : ℕ} {σ : St} {live : List Slot} {k : ℕ → St → Out} (x : ℕ) → (layout E).Exp' x a m → Rel E c.hs.vars ns σ.env live
      → ((v : ℕ) (σ' : St) (live' : List Slot) → Rel E c.hs.vars ns σ'.env live' → Ev E (Done E c true ns ns' κ b (k v σ')) (conf (ready m (mach E (v ∷ []) c.hs live')) σ'.world))
      → Ev E (Done E c true ns ns' κ b (bind_g (reading seek sets_inner (E.W.reading x) (around c.hs) σ) k)) (conf (ready a (mach E [] c.hs live)) σ.world)
  evaluated {a} {m} {c} {ns} {ns'} {κ} {b} {σ} {live} {k} x z r f =
      through (E.law.plays x z.0 E.code E.rows a (mach E [] c.hs live) σ.world (around c.hs) z.1 (let l = E.law.low in omega arith))
      (inside-level a (a + length (E.W.segment x)) (0 + E.W.rise) (λ i p q. z.3 i p (subst (λ (y : ℕ). i < y) z.2 q)))
      (λ d s. go (reading seek sets_inner (E.W.reading x) (around c.hs) σ) (reading (find_slot E.T) (poke_slot E.T) (E.W.reading x) (around c.hs) (st (locals E live) σ.world)) d (reading-same E (E.W.reading x) (around c.hs) σ.world r).is s)
    where
      go : (g : Got) (g' : GotOf Locals) (d : Conf) → SameGot E c.hs.vars ns (around c.hs) g g' → Settles E.T a (a + length (E.W.segment x)) E.W.rise (mach E [] c.hs live) g' d → Ev E (Done E c true ns ns' κ b (bind_g g k)) d
      go (got v σ') g' d s t =
          let e = subst (λ (y : GotOf Locals). Settles E.T a (a + length (E.W.segment x)) E.W.rise (mach E [] c.hs live) y d) s.1 t in
          subst (λ (y : Conf). Ev E (Done E c true ns ns' κ b (k v σ')) y) (sym e) (hop z.2 (f v σ' s.0 s.2))
      go (bad h p σ') g' d s t =
          let e = subst (λ (y : GotOf Locals). Settles E.T a (a + length (E.W.segment x)) E.W.rise (mach E [] c.hs live) y d) s.1 t in
          thrown (e.0 ++ []) s.0 s.2 e.2
      go (dry q A σ') g' d s t =
          let e = subst (λ (y : GotOf Locals). Settles E.T a (a + length (E.W.segment x)) E.W.rise (mach E [] c.hs live) y d) s.1 t in
          idle e.0 e.1 e.2 (e.3 ++ []) s.0 s.2 e.8 e.4 s.3

  -- ## A test
  pub tested : {a m t : ℕ} {p : Position} {y : Ctx} {c : Cx} {ns ns' : Scopes} {κ : Bool} {b v : ℕ} {σ : St} {live : List Slot} {A B : Out} → Meets y c.hs.its c.hs.hands live → Ins E (JumpIfFalse t) p (heights 1 y) a m → Rel E c.hs.vars ns σ.env live
      → Ev E (Done E c true ns ns' κ b A) (conf (ready m (mach E [] c.hs live)) σ.world) → Ev E (Done E c true ns ns' κ b B) (conf (ready t (mach E [] c.hs live)) σ.world)
      → Ev E (Done E c true ns ns' κ b (test (truth v) p σ A B)) (conf (ready a (mach E (v ∷ []) c.hs live)) σ.world)
  tested {a} {m} {t} {p} {c} {ns} {ns'} {κ} {b} {v} {σ} {live} {A} {B} mt i r f g = go (truth v) (branch-is t p v (mach E [] c.hs live))
    where
      go : (y : Truth) → branch false t p v (mach E [] c.hs live) ≡ jumps y t p (mach E [] c.hs live) → Ev E (Done E c true ns ns' κ b (test y p σ A B)) (conf (ready a (mach E (v ∷ []) c.hs live)) σ.world)
      go yes z = act_to _ mt refl i z f
      go no z = act_to _ mt refl i z g
      go neither z = act_to _ mt refl i z (thrown [] live r refl)

  -- ## After a statement
  pub sequel : {d : Conf} {c : Cx} {sh : Bool} {rs ns₁ ns₂ : Scopes} {κ₁ κ₂ : Bool} {b₁ b₂ : ℕ} {r : Out} {k : ℕ → St → Out} → Ev E (Done E c sh rs ns₁ κ₁ b₁ r) d
      → ((v : ℕ) (σ : St) (live : List Slot) → Rel E c.hs.vars ns₁ σ.env live → Fits κ₁ v → Ev E (Done E c sh rs ns₂ κ₂ b₂ (k v σ)) (conf (ready b₁ (mach E (push κ₁ v) c.hs live)) σ.world))
      → Ev E (Done E c sh rs ns₂ κ₂ b₂ (bind_v r k)) d
  sequel {c} {sh} {rs} {ns₁} {ns₂} {κ₁} {κ₂} {b₁} {b₂} {r} {k} t f = next-then t (λ x q. go r x q.is)
    where
      go : (r : Out) (d : Conf) → Exit E c sh rs ns₁ κ₁ b₁ r d → Ev E (Done E c sh rs ns₂ κ₂ b₂ (bind_v r k)) d
      go (value v σ) d q = subst (λ (x : Conf). Ev E (Done E c sh rs ns₂ κ₂ b₂ (k v σ)) x) (sym q.1) (f v σ q.0 q.2 q.3)
      go (broke v σ) d q = done q
      go (continued σ) d q = done q
      go (returned v σ) d q = done q
      go (fault h p σ) d q = done q
      go (waits n A σ) d q = done q
      go spent d q = done q

  -- ## A scope is closed
  pub closed : {d : Conf} {c : Cx} {ns : Scopes} {κ : Bool} {b b' k : ℕ} {r : Out} (x : Ctx) (n₁ : List Bytes) {ns₁ : Scopes} → ns₁ ≡ n₁ ∷ ns → Unwind (layout E) κ (in_scopes ns₁ x) ns b b' → Low c.lp x.its x.hands c.hs c.bl c.cl ns → length ns ≡ k
      → Ev E (Done E c false ns ns₁ κ b r) d → Ev E (Done E c true ns ns κ b' (closing k r)) d
  closed {d} {c} {ns} {κ} {b} {b'} {k} {r} x n₁ {ns₁} sp u lo hd t = subst (λ (y : ℕ). Ev E (Done E c true ns ns κ b' (closing y r)) d) hd (next-then t (λ d' q. go r d' q.is))
    where
      kk : (js : List ℕ) (ls : Scopes) (ss : List Scope) (live : List Slot) → length ls ≤ length ns → Rel E js ls (keep (length ls) ss) live → Rel E js ls (keep (length ls) (keep (length ns) ss)) live
      kk js ls ss live o q = subst (λ (y : List Scope). Rel E js ls y live) (sym (keep-keep (length ls) (length ns) ss o)) q

      brk : (L : Option LoopAt) (v : ℕ) (σ : St) (d : Conf) → LowAt L c.hs c.bl c.cl ns → BrokeAt E L c.bl v σ d → BrokeAt E L c.bl v (closed_st (length ns) σ) d
      brk None v σ d o q = q
      brk (Some l) v σ d o q = (q.0, q.1, kk c.bl.vars l.bns σ.env q.0 (ends-le o.0) q.2, q.3)

      cnt : (L : Option LoopAt) (σ : St) (d : Conf) → LowAt L c.hs c.bl c.cl ns → ContAt E L c.cl σ d → ContAt E L c.cl (closed_st (length ns) σ) d
      cnt None σ d o q = q
      cnt (Some l) σ d o q = (q.0, q.1, q.2, kk c.cl.vars l.cns σ.env q.0 (ends-le o.1) q.3)

      shut : (σ : St) (live : List Slot) → Rel E c.hs.vars ns₁ σ.env live → Rel E c.hs.vars ns (keep (length ns) σ.env) (take (depth ns) live)
      shut σ live h = closes E lo.base (subst (λ (q : Scopes). Rel E c.hs.vars q σ.env live) sp h)

      at : (v : ℕ) (σ : St) (live : List Slot) → Rel E c.hs.vars ns₁ σ.env live → Fits κ v → Unwind (layout E) κ (in_scopes ns₁ x) ns b b' → Ev E (Done E c true ns ns κ b' (value v (closed_st (length ns) σ))) (conf (ready b (mach E (push κ v) c.hs live)) σ.world)
      at v σ live h f (inl z) = done (take (depth ns) live, ap₂ (λ (y : ℕ) (l : List Slot). conf (ready y (mach E (push κ v) c.hs l)) σ.world) z.1 (sym (take_all (depth ns) live (let e = rel-length E h in let g = z.0 in omega arith))), shut σ live h, f)
      at v σ live h f (inr i) =
          let mt : Meets (in_scopes ns₁ x) c.hs.its c.hs.hands live = record { its = lo.its; hands = lo.hands; slots = rel-length E h } in
          let le : depth ns ≤ length live = let e = rel-length E h in let g = ap depth sp in omega arith in
          unwound mt (push-length κ v) (op i) le (done (take (depth ns) live, refl, shut σ live h, f))

      go : (r : Out) (d : Conf) → Exit E c false ns ns₁ κ b r d → Ev E (Done E c true ns ns κ b' (closing (length ns) r)) d
      go (value v σ) d q = subst (λ (y : Conf). Ev E (Done E c true ns ns κ b' (value v (closed_st (length ns) σ))) y) (sym q.1) (at v σ q.0 q.2 q.3 u)
      go (broke v σ) d q = done (brk c.lp v σ d lo.low q.0, keep-length σ.env (length ns) q.1)
      go (continued σ) d q = done (cnt c.lp σ d lo.low q.0, keep-length σ.env (length ns) q.1)
      go (returned v σ) d q = done q
      go (fault h p σ) d q = done (q.0, q.1, q.2, q.3, kk c.hs.vars ns σ.env (take (depth ns) q.2) (omega arith) q.4, keep-length σ.env (length ns) q.5, q.6)
      go (waits n A σ) d q = done q
      go spent d q = done q

  -- ## Seen from the list that a statement stands in
  pub outer : {d : Conf} {c : Cx} {n : List Bytes} {rs ns : Scopes} {κ : Bool} {b : ℕ} {r : Out} → Below c.hs.vars (depth rs) → Ev E (Done E c true (n ∷ rs) ns κ b r) d → Ev E (Done E c false rs ns κ b r) d
  outer {c} {n} {rs} {ns} {κ} {b} {r} bs t = next-then t (λ d q. done (go r d q.is))
    where
      go : (r : Out) (d : Conf) → Exit E c true (n ∷ rs) ns κ b r d → Exit E c false rs ns κ b r d
      go (value v σ) d q = q
      go (broke v σ) d q = q
      go (continued σ) d q = q
      go (returned v σ) d q = q
      go (fault h p σ) d q = (q.0, q.1, q.2, q.3, subst₂ (λ (x : List Scope) (y : List Slot). Rel E c.hs.vars rs x y) (keep-keep (length rs) (suc (length rs)) σ.env (omega arith)) (take-take (depth rs) (length n + depth rs) q.2 (omega arith)) (closes E bs q.4), q.5, q.6)
      go (waits n A σ) d q = q
      go spent d q = q

  -- One move more.
  pub counted : {d d' : Conf} (c : Cx) {sh : Bool} {ns ns' : Scopes} {κ : Bool} {b : ℕ} (k : ℕ) (r : Out) → Lev E d → move E.code E.rows E.T d ≡ Some d' → Ev E (Done E (up_till k c) sh ns ns' κ b r) d' → Ev E (Done E (up_till (suc k) c) sh ns ns' κ b r) d
  counted c k (value v σ) l e t = then l e (next-then t (λ m x. done x.is))
  counted c k (broke v σ) l e t = then l e (next-then t (λ m x. done x.is))
  counted c k (continued σ) l e t = then l e (next-then t (λ m x. done x.is))
  counted c k (returned v σ) l e t = then l e (next-then t (λ m x. done x.is))
  counted c k (fault h p σ) l e t = then l e (next-then t (λ m x. done x.is))
  counted c k (waits q A σ) l e t = then l e (next-then t (λ m x. done x.is))
  counted {d'} c k spent l e t = done (d', l, e, lives E k (next-then t (λ m q. here q.is)))

  -- One branch's end becomes the whole's.
  pub led : {d : Conf} {c : Cx} {sh : Bool} {ns ns' : Scopes} {κ κ' : Bool} {b b' : ℕ} {r : Out} (x : Ctx) → Glue (layout E) κ κ' x b b' → length c.hs.its ≡ x.its → length c.hs.hands ≡ x.hands → x.ns ≡ ns' → Ev E (Done E c sh ns ns' κ b r) d → Ev E (Done E c sh ns ns' κ' b' r) d
  led {c} {sh} {ns} {ns'} {κ} {κ'} {b} {b'} {r} x g li lh ln t = next-then t (λ d q. go r d q.is)
    where
      go : (r : Out) (d : Conf) → Exit E c sh ns ns' κ b r d → Ev E (Done E c sh ns ns' κ' b' r) d
      go (value v σ) d q = subst (λ (y : Conf). Ev E (Done E c sh ns ns' κ' b' (value v σ)) y) (sym q.1) (glued κ κ' v g (record { its = li; hands = lh; slots = rel-length E q.2 ∙ ap depth (sym ln) }) q.3 (λ f. done (q.0, refl, q.2, f)))
      go (broke v σ) d q = done q
      go (continued σ) d q = done q
      go (returned v σ) d q = done q
      go (fault h p σ) d q = done q
      go (waits n A σ) d q = done q
      go spent d q = done q
