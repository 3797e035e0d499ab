-- Steps of the fed player, questions heard alike on both sides, and expressions.
use Rattle.std.proofs.Common.{◌≡◌, ℕ, suc, Bool, true, false, cond, List, [], ◌∷◌, Some, None, Option, sym, refl, ap, ◌∙◌, subst}
use Rattle.records.specs.declared.types.Position.{Position}
use Rattle.code.specs.declared.ops.Op.{Op}
use Rattle.code.specs.declared.ops.Instr.{Instr}
use Rattle.code.specs.declared.talk.Slot.{Slot}
use Rattle.code.specs.declared.talk.Handler.{Handler}
use Rattle.code.specs.declared.talk.Question.{Question}
use Rattle.code.specs.declared.talk.Purpose.{Purpose}
use Rattle.code.specs.declared.talk.Purpose.TheVariants.{Push, Store, Assigned, Open, Advance}
use Rattle.code.specs.declared.talk.Answer.TheVariants.{Value, Done as DoneAnswer, Fault}
use Rattle.code.specs.declared.talk.End.TheVariants.{Value as Gives}
use Rattle.meaning.specs.Machine.{Locals, Mach, Effect, Effect.next, Effect.goto, Effect.ask, Effect.fault as faults, Effect.give, Effect.stuck, with_slots, exec, takes, resume}
use Rattle.meaning.specs.Throws.{catches}
use Rattle.meaning.specs.Calls.{State, State.ready, State.waits as waiting, State.ended, instr_at, landed, after, step}
use Rattle.meaning.specs.Reading.{Ask, Ask.expression, Ask.name, Event, Event.value as value_e, Event.done as done_e, Event.fault as fault_e, Event.put as put_e, valued, doable, Cell, Scope, seek, sets_inner, World, St, st, Around, Heard, Heard.value as heard_v, Heard.done as heard_d, Heard.fault as heard_f, Heard.waits as heard_w, hears, asks, Truth, Truth.yes, Truth.no, Truth.neither, truth, Reading, Reading.unit as unit_r, Reading.yes as yes_r, Reading.opaque as opaque_r, Reading.no as no_r, Reading.name as name_r, Reading.all as all_r, Reading.any as any_r, Items, Items.end, Items.item, Got, Got.got, Got.bad, Got.dry, gotten, bind_got, decides, reads, reading, goes_through}
use Rattle.meaning.specs.Fed.{in_words, find_slot, poke_slot, Conf, conf, noted, answered_by, move, Comes, Comes.here, Comes.then}
use Rattle.meaning.specs.Agreement.{Heights, armed, heights_of}
use Rattle.meaning.proofs.Place.{Scopes}
use Rattle.meaning.proofs.Layouts.{Level}
use Rattle.meaning.proofs.Rel.{Env, locals, Rel, look-agrees, puts}

-- ## The player's state by its parts

-- Iterators and handlers; and the slots of the loop variables that stand around.
pub record Frame : Type 0 where
  pub its : List ℕ
  pub hands : List Handler
  pub vars : List ℕ

abbrev pub mach : Env → List ℕ → Frame → List Slot → Mach
mach E vs F live = record { values = vs; iters = F.its; handlers = F.hands; slots = locals E live }

-- What stands around, by the player's own tables.
abbrev pub around : Frame → Around
around F = record { iters = F.its; tries = armed F.hands }

-- A state at the heights of its place.
pub record Lev (E : Env) (d : Conf) : Type 0 where
  pub level : Level E.code E.rows E.T E.W E.room E.H E.free d.state

abbrev pub Ev : Env → (Conf → Type 0) → Conf → Type 0
Ev E Q d = Comes E.code E.rows E.T (Lev E) Q d

-- An operation stands at a place, met at these heights.
pub record Ins (E : Env) (o : Op) (p : Position) (h : Heights) (a b : ℕ) : Type 0 where
  pub op : instr_at E.code a ≡ record { op = o; at = p }
  pub to : suc a ≡ b
  pub met : E.H a ≡ h

-- What an operation at place a, before place b, leads to.
abbrev pub After : Env → (Conf → Type 0) → Effect → ℕ → ℕ → World → Type 0
After E Q (next m) a b w = Ev E Q (conf (ready b m) w)
After E Q (goto t m) a b w = Ev E Q (conf (ready t m) w)
After E Q (ask q u m) a b w = Ev E Q (conf (waiting q u a m) (record { feed = w.feed; asked = in_words E.T q ∷ w.asked }))
After E Q (faults h p m) a b w = Ev E Q (conf (landed (catches h p m)) w)
After E Q (give v) a b w = Ev E Q (conf (ended (Gives v)) w)
After E Q stuck a b w = ⊥

module _ (E : Env) where
  pub noted-landed : (e : Effect) (w : World) → noted E.T (landed e) w ≡ w
  noted-landed (next m) w = refl
  noted-landed (goto t m) w = refl
  noted-landed (ask q u m) w = refl
  noted-landed (faults h p m) w = refl
  noted-landed (give v) w = refl
  noted-landed stuck w = refl

  -- A step is a move.
  pub moved : (a : ℕ) (m : Mach) (w : World) (s : State) → step E.code E.rows a m ≡ s → move E.code E.rows E.T (conf (ready a m) w) ≡ Some (conf s (noted E.T s w))
  moved a m w s e = ap (λ (x : State). Some (conf x (noted E.T x w))) e

module _ {E : Env} where
  pub steps : {o : Op} {p : Position} {h : Heights} {a b : ℕ} (m : Mach) → Ins E o p h a b → step E.code E.rows a m ≡ after (exec E.rows o p m) a
  steps {a} m i = ap (λ (x : Instr). after (exec E.rows x.op x.at m) a) i.op

  pub level-at : {o : Op} {p : Position} {h : Heights} {a b : ℕ} {m : Mach} {w : World} → Ins E o p h a b → heights_of m ≡ h → Lev E (conf (ready a m) w)
  level-at i e = record { level = λ z. e ∙ sym i.met }

  -- One operation.
  pub ins_to : {Q : Conf → Type 0} {o : Op} {p : Position} {h : Heights} {a b : ℕ} {m : Mach} {w : World} (e : Effect) → Ins E o p h a b → heights_of m ≡ h → exec E.rows o p m ≡ e → After E Q e a b w → Ev E Q (conf (ready a m) w)
  ins_to {Q} {a} {b} {m} {w} e i l x t = go e (steps m i ∙ ap (λ (y : Effect). after y a) x) t
    where
      lv : Lev E (conf (ready a m) w)
      lv = level-at i l

      go : (e : Effect) → step E.code E.rows a m ≡ after e a → After E Q e a b w → Ev E Q (conf (ready a m) w)
      go (next n) z t = then lv (moved E a m w (ready (suc a) n) z) (subst (λ (k : ℕ). Ev E Q (conf (ready k n) w)) (sym i.to) t)
      go (goto t n) z k = then lv (moved E a m w (ready t n) z) k
      go (ask q u n) z k = then lv (moved E a m w (waiting q u a n) z) k
      go (faults f p n) z k = then lv (moved E a m w (landed (catches f p n)) z ∙ ap (λ (y : World). Some (conf (landed (catches f p n)) y)) (noted-landed E (catches f p n) w)) k
      go (give v) z k = then lv (moved E a m w (ended (Gives v)) z) k
      go stuck z k = absurd k

  pub ins : {Q : Conf → Type 0} {o : Op} {p : Position} {h : Heights} {a b : ℕ} {m : Mach} {w : World} → Ins E o p h a b → heights_of m ≡ h → After E Q (exec E.rows o p m) a b w → Ev E Q (conf (ready a m) w)
  ins i l t = ins_to _ i l refl t

  pub next-then : {Q R : Conf → Type 0} {d : Conf} → Ev E Q d → ((c : Conf) → Q c → Ev E R c) → Ev E R d
  next-then (here q) f = f _ q
  next-then (then l e t) f = then l e (next-then t f)

  pub hop : {Q : Conf → Type 0} {a b : ℕ} {m : Mach} {w : World} → a ≡ b → Ev E Q (conf (ready b m) w) → Ev E Q (conf (ready a m) w)
  hop {Q} {m} {w} e t = subst (λ (x : ℕ). Ev E Q (conf (ready x m) w)) (sym e) t

-- ## Questions

-- What the player comes to where the tree hears an answer: the answer's effect, at the asking place.
abbrev pub HeardAt : (E : Env) → List ℕ → Scopes → List ℕ → Frame → Question → Purpose → ℕ → Heard (List Scope) → Conf → Type 0
HeardAt E js ns vs F q u a (heard_v h σ) d = (live : List Slot) × (valued (in_words E.T q) ≡ true) × (d ≡ conf (after (resume u (Value h) (mach E vs F live)) a) σ.world) × Rel E js ns σ.env live
HeardAt E js ns vs F q u a (heard_d σ) d = (live : List Slot) × (doable (in_words E.T q) ≡ true) × (d ≡ conf (after (resume u DoneAnswer (mach E vs F live)) a) σ.world) × Rel E js ns σ.env live
HeardAt E js ns vs F q u a (heard_f h p σ) d = (live : List Slot) × (d ≡ conf (landed (catches h p (mach E vs F live))) σ.world) × Rel E js ns σ.env live
HeardAt E js ns vs F q u a (heard_w k A σ) d = (live : List Slot) × (d ≡ conf (waiting q u a (mach E vs F live)) σ.world) × Rel E js ns σ.env live × (in_words E.T q ≡ k) × (A ≡ around F)

pub record Hears (E : Env) (js : List ℕ) (ns : Scopes) (vs : List ℕ) (F : Frame) (q : Question) (u : Purpose) (a : ℕ) (r : Heard (List Scope)) (d : Conf) : Type 0 where
  pub is : HeardAt E js ns vs F q u a r d

-- The answers that suit a question suit its purpose.
pub record Suits (E : Env) (q : Question) (u : Purpose) : Type 0 where
  pub values : (h : ℕ) → takes u (Value h) ≡ valued (in_words E.T q)
  pub dones : takes u DoneAnswer ≡ doable (in_words E.T q)

resume-fault : (u : Purpose) (h : ℕ) (p : Position) (m : Mach) → resume u (Fault h p) m ≡ faults h p m
resume-fault Push h p m = refl
resume-fault (Store i) h p m = refl
resume-fault Assigned h p m = refl
resume-fault Open h p m = refl
resume-fault (Advance t) h p m = refl

module _ {E : Env} where
  pub hear : {js : List ℕ} {ns : Scopes} {vs : List ℕ} {F : Frame} {q : Question} {u : Purpose} {a : ℕ} → Suits E q u → (f : List Event) {ss : List Scope} {live : List Slot} (qs : List Ask) → Rel E js ns ss live
      → Ev E (Hears E js ns vs F q u a (hears seek sets_inner (in_words E.T q) (around F) f ss qs)) (conf (waiting q u a (mach E vs F live)) (record { feed = f; asked = qs }))
  hear s [] {live} qs r = here (record { is = (live, refl, r, refl, refl) })
  hear {js} {ns} {vs} {F} {q} {u} {a} s (value_e h ∷ f) {ss} {live} qs r = go (valued (in_words E.T q)) refl (hear s f qs r)
    where
      k : Ask
      k = in_words E.T q

      w : World
      w = record { feed = f; asked = qs }

      on : (t : Bool) → valued k ≡ t → move E.code E.rows E.T (conf (waiting q u a (mach E vs F live)) (record { feed = value_e h ∷ f; asked = qs })) ≡ Some (answered_by t (Value h) q u a (mach E vs F live) w)
      on t e = ap (λ (b : Bool). Some (answered_by b (Value h) q u a (mach E vs F live) w)) (s.values h ∙ e)

      go : (t : Bool) → valued k ≡ t → Ev E (Hears E js ns vs F q u a (hears seek sets_inner k (around F) f ss qs)) (conf (waiting q u a (mach E vs F live)) w)
          → Ev E (Hears E js ns vs F q u a (cond t (heard_v h (st ss w)) (hears seek sets_inner k (around F) f ss qs))) (conf (waiting q u a (mach E vs F live)) (record { feed = value_e h ∷ f; asked = qs }))
      go true e t = then (record { level = tt }) (on true e) (here (record { is = (live, e, refl, r) }))
      go false e t = then (record { level = tt }) (on false e) t
  hear {js} {ns} {vs} {F} {q} {u} {a} s (done_e ∷ f) {ss} {live} qs r = go (doable (in_words E.T q)) refl (hear s f qs r)
    where
      k : Ask
      k = in_words E.T q

      w : World
      w = record { feed = f; asked = qs }

      on : (t : Bool) → doable k ≡ t → move E.code E.rows E.T (conf (waiting q u a (mach E vs F live)) (record { feed = done_e ∷ f; asked = qs })) ≡ Some (answered_by t DoneAnswer q u a (mach E vs F live) w)
      on t e = ap (λ (b : Bool). Some (answered_by b DoneAnswer q u a (mach E vs F live) w)) (s.dones ∙ e)

      go : (t : Bool) → doable k ≡ t → Ev E (Hears E js ns vs F q u a (hears seek sets_inner k (around F) f ss qs)) (conf (waiting q u a (mach E vs F live)) w)
          → Ev E (Hears E js ns vs F q u a (cond t (heard_d (st ss w)) (hears seek sets_inner k (around F) f ss qs))) (conf (waiting q u a (mach E vs F live)) (record { feed = done_e ∷ f; asked = qs }))
      go true e t = then (record { level = tt }) (on true e) (here (record { is = (live, e, refl, r) }))
      go false e t = then (record { level = tt }) (on false e) t
  hear {vs} {F} {q} {u} {a} s (fault_e h p ∷ f) {live} qs r = then (record { level = tt }) refl (here (record { is = (live, ap (λ (e : Effect). conf (after e a) (record { feed = f; asked = qs })) (resume-fault u h p (mach E vs F live)), r) }))
  hear {js} {ns} {vs} {F} {q} {u} {a} s (put_e x h ∷ f) {ss} {live} qs r =
      let z = puts E x h r in
      then (record { level = tt }) (ap (λ (l : Locals). Some (conf (waiting q u a (with_slots l (mach E vs F live))) (record { feed = f; asked = qs }))) z.1) (hear s f qs z.2)

-- ## Expressions run alike over scopes and over slots

abbrev pub SameHeard : (E : Env) → List ℕ → Scopes → Around → Heard (List Scope) → Heard Locals → Type 0
SameHeard E js ns A (heard_v h σ) g = (live : List Slot) × (g ≡ heard_v h (st (locals E live) σ.world)) × Rel E js ns σ.env live
SameHeard E js ns A (heard_d σ) g = (live : List Slot) × (g ≡ heard_d (st (locals E live) σ.world)) × Rel E js ns σ.env live
SameHeard E js ns A (heard_f h p σ) g = (live : List Slot) × (g ≡ heard_f h p (st (locals E live) σ.world)) × Rel E js ns σ.env live
SameHeard E js ns A (heard_w q B σ) g = (live : List Slot) × (g ≡ heard_w q B (st (locals E live) σ.world)) × Rel E js ns σ.env live × (B ≡ A)

abbrev pub SameGot : (E : Env) → List ℕ → Scopes → Around → Got (List Scope) → Got Locals → Type 0
SameGot E js ns A (got v σ) g = (live : List Slot) × (g ≡ got v (st (locals E live) σ.world)) × Rel E js ns σ.env live
SameGot E js ns A (bad h p σ) g = (live : List Slot) × (g ≡ bad h p (st (locals E live) σ.world)) × Rel E js ns σ.env live
SameGot E js ns A (dry q B σ) g = (live : List Slot) × (g ≡ dry q B (st (locals E live) σ.world)) × Rel E js ns σ.env live × (B ≡ A)

pub record Same (E : Env) (js : List ℕ) (ns : Scopes) (A : Around) (g : Got (List Scope)) (g' : Got Locals) : Type 0 where
  pub is : SameGot E js ns A g g'

module _ (E : Env) where
  hears-same : {js : List ℕ} {ns : Scopes} (q : Ask) (A : Around) (f : List Event) {ss : List Scope} {live : List Slot} (qs : List Ask) → Rel E js ns ss live
      → SameHeard E js ns A (hears seek sets_inner q A f ss qs) (hears (find_slot E.T) (poke_slot E.T) q A f (locals E live) qs)
  hears-same q A [] {live} qs r = (live, refl, r, refl)
  hears-same {js} {ns} q A (value_e h ∷ f) {ss} {live} qs r = go (valued q) (hears-same q A f qs r)
    where
      go : (t : Bool) → SameHeard E js ns A (hears seek sets_inner q A f ss qs) (hears (find_slot E.T) (poke_slot E.T) q A f (locals E live) qs)
          → SameHeard E js ns A (cond t (heard_v h (st ss (record { feed = f; asked = qs }))) (hears seek sets_inner q A f ss qs)) (cond t (heard_v h (st (locals E live) (record { feed = f; asked = qs }))) (hears (find_slot E.T) (poke_slot E.T) q A f (locals E live) qs))
      go true z = (live, refl, r)
      go false z = z
  hears-same {js} {ns} q A (done_e ∷ f) {ss} {live} qs r = go (doable q) (hears-same q A f qs r)
    where
      go : (t : Bool) → SameHeard E js ns A (hears seek sets_inner q A f ss qs) (hears (find_slot E.T) (poke_slot E.T) q A f (locals E live) qs)
          → SameHeard E js ns A (cond t (heard_d (st ss (record { feed = f; asked = qs }))) (hears seek sets_inner q A f ss qs)) (cond t (heard_d (st (locals E live) (record { feed = f; asked = qs }))) (hears (find_slot E.T) (poke_slot E.T) q A f (locals E live) qs))
      go true z = (live, refl, r)
      go false z = z
  hears-same q A (fault_e h p ∷ f) {live} qs r = (live, refl, r)
  hears-same {js} {ns} q A (put_e x h ∷ f) {ss} {live} qs r =
      let z = puts E x h r in
      subst (λ (l : Locals). SameHeard E js ns A (hears seek sets_inner q A f (sets_inner x h ss) qs) (hears (find_slot E.T) (poke_slot E.T) q A f l qs)) (sym z.1) (hears-same q A f qs z.2)

  asks-same : {js : List ℕ} {ns : Scopes} (q : Ask) (A : Around) {ss : List Scope} {live : List Slot} (w : World) → Rel E js ns ss live
      → Same E js ns A (gotten (asks seek sets_inner q A (st ss w))) (gotten (asks (find_slot E.T) (poke_slot E.T) q A (st (locals E live) w)))
  asks-same {js} {ns} q A {ss} {live} w r = record { is = go (asks seek sets_inner q A (st ss w)) (asks (find_slot E.T) (poke_slot E.T) q A (st (locals E live) w)) (hears-same q A w.feed (q ∷ w.asked) r) }
    where
      go : (g : Heard (List Scope)) (g' : Heard Locals) → SameHeard E js ns A g g' → SameGot E js ns A (gotten g) (gotten g')
      go (heard_v h σ) g' z = (z.0, ap gotten z.1, z.2)
      go (heard_d σ) g' z = (z.0, ap gotten z.1, z.2)
      go (heard_f h p σ) g' z = (z.0, ap gotten z.1, z.2)
      go (heard_w k B σ) g' z = (z.0, ap gotten z.1, z.2, z.3)

  bind-same : {js : List ℕ} {ns : Scopes} {A : Around} (g : Got (List Scope)) (g' : Got Locals) (k : ℕ → St (List Scope) → Got (List Scope)) (k' : ℕ → St Locals → Got Locals) → Same E js ns A g g'
      → ((v : ℕ) (ss : List Scope) (live : List Slot) (w : World) → Rel E js ns ss live → Same E js ns A (k v (st ss w)) (k' v (st (locals E live) w))) → Same E js ns A (bind_got g k) (bind_got g' k')
  bind-same {js} {ns} {A} g g' k k' s f = go g s.is
    where
      go : (g : Got (List Scope)) → SameGot E js ns A g g' → Same E js ns A (bind_got g k) (bind_got g' k')
      go (got v σ) z = subst (λ (y : Got Locals). Same E js ns A (k v σ) (bind_got y k')) (sym z.1) (f v σ.env z.0 σ.world z.2)
      go (bad h p σ) z = record { is = (z.0, ap (λ (y : Got Locals). bind_got y k') z.1, z.2) }
      go (dry q B σ) z = record { is = (z.0, ap (λ (y : Got Locals). bind_got y k') z.1, z.2, z.3) }

  decides-same : {js : List ℕ} {ns : Scopes} {A : Around} (t on : Truth) (h : ℕ) (p : Position) {ss : List Scope} {live : List Slot} (w : World) {g : Got (List Scope)} {g' : Got Locals} → Rel E js ns ss live → Same E js ns A g g'
      → Same E js ns A (decides t on h p (st ss w) g) (decides t on h p (st (locals E live) w) g')
  decides-same yes yes h p {live} w r s = record { is = (live, refl, r) }
  decides-same yes no h p w r s = s
  decides-same yes neither h p w r s = s
  decides-same no yes h p w r s = s
  decides-same no no h p {live} w r s = record { is = (live, refl, r) }
  decides-same no neither h p w r s = s
  decides-same neither on h p {live} w r s = record { is = (live, refl, r) }

  mutual
    pub reading-same : (x : Reading) {js : List ℕ} {ns : Scopes} (A : Around) {ss : List Scope} {live : List Slot} (w : World) → Rel E js ns ss live
        → Same E js ns A (reading seek sets_inner x A (st ss w)) (reading (find_slot E.T) (poke_slot E.T) x A (st (locals E live) w))
    reading-same unit_r A {live} w r = record { is = (live, refl, r) }
    reading-same yes_r A {live} w r = record { is = (live, refl, r) }
    reading-same (opaque_r e) A w r = asks-same (expression e) A w r
    reading-same no_r A {live} w r = record { is = (live, refl, r) }
    reading-same (name_r x) {js} {ns} A {ss} {live} w r = go (find_slot E.T x (locals E live)) (seek x ss) (look-agrees E x r) (asks-same (name x) A w r)
      where
        go : (o o' : Option Cell) → o ≡ o' → Same E js ns A (gotten (asks seek sets_inner (name x) A (st ss w))) (gotten (asks (find_slot E.T) (poke_slot E.T) (name x) A (st (locals E live) w)))
            → Same E js ns A (reads seek sets_inner o' x A (st ss w)) (reads (find_slot E.T) (poke_slot E.T) o x A (st (locals E live) w))
        go o None e s = subst (λ (y : Option Cell). Same E js ns A (reads seek sets_inner None x A (st ss w)) (reads (find_slot E.T) (poke_slot E.T) y x A (st (locals E live) w))) (sym e) s
        go o (Some c) e s = subst (λ (y : Option Cell). Same E js ns A (reads seek sets_inner (Some c) x A (st ss w)) (reads (find_slot E.T) (poke_slot E.T) y x A (st (locals E live) w))) (sym e) (record { is = (live, refl, r) })
    reading-same (all_r is) A w r = through_same is no 1 2 A w r
    reading-same (any_r is) A w r = through_same is yes 2 1 A w r

    through_same : (is : Items) {js : List ℕ} {ns : Scopes} (on : Truth) (hit miss : ℕ) (A : Around) {ss : List Scope} {live : List Slot} (w : World) → Rel E js ns ss live
        → Same E js ns A (goes_through seek sets_inner is on hit miss A (st ss w)) (goes_through (find_slot E.T) (poke_slot E.T) is on hit miss A (st (locals E live) w))
    through_same end on hit miss A {live} w r = record { is = (live, refl, r) }
    through_same (item p x is) {js} {ns} on hit miss A {ss} {live} w r =
        bind-same (reading seek sets_inner x A (st ss w)) (reading (find_slot E.T) (poke_slot E.T) x A (st (locals E live) w)) _ _ (reading-same x A w r)
        (λ v ss' live' w' r'. decides-same (truth v) on hit p w' r' (through_same is on hit miss A w' r'))
