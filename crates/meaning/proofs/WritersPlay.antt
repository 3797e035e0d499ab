-- Written code plays as its reading runs: where the operations of a reading stand, a fed player comes to what the
-- reading comes to.
use Rattle.std.proofs.Common.{◌≡◌, ℕ, suc, ◌+◌, ◌<◌, ◌≤◌, Bool, true, false, cond, not, eqb, List, [], ◌∷◌, ◌++◌, length, Some, None, Option, sym, refl, ap, ◌∙◌, subst, arith, length-append, lt-ltb}
use Rattle.records.specs.declared.types.Position.{Position}
use Rattle.records.specs.Tree.{nowhere}
use Rattle.code.specs.declared.ops.Op.{Op}
use Rattle.code.specs.declared.ops.Op.TheVariants.{Unit as UnitOp, Bool as BoolOp, LoadNamed, Jump, JumpIfTrue, JumpIfFalse, EvalExpr}
use Rattle.code.specs.declared.ops.Instr.{Instr}
use Rattle.code.specs.declared.ops.Row.{Row}
use Rattle.code.specs.declared.talk.Question.{Question}
use Rattle.code.specs.declared.talk.Question.TheVariants.{Expression, Name}
use Rattle.code.specs.declared.talk.Purpose.{Purpose}
use Rattle.code.specs.declared.talk.Purpose.TheVariants.{Push}
use Rattle.meaning.specs.Machine.{Locals, Mach, Effect, Effect.next, Effect.goto, Effect.ask, Effect.fault, Effect.give, Effect.stuck, newest, pushes, named, branch, exec}
use Rattle.meaning.specs.Throws.{catches}
use Rattle.meaning.specs.Calls.{State.ready, State.waits, instr_at, landed, after, slot_of}
use Rattle.meaning.specs.Reading.{Bytes, Ask, valued, doable, Event, Event.value, Event.done, Event.fault, Event.put, Around, World, St, st, Truth, Truth.yes as holds, Truth.no as fails, Truth.neither, truth, Got, Got.got, Got.bad, Got.dry, gotten, bind_got, decides, hears, asks, reads, Reading, Reading.unit, Reading.yes, Reading.opaque, Reading.no, Reading.name, Reading.all, Reading.any, Items, Items.end, Items.item, reading, goes_through}
use Rattle.meaning.specs.Fed.{Tables, number_of, in_words, cell_of, find_slot, poke_slot, Conf, conf, noted, move, Comes, Comes.here, Comes.then}
use Rattle.meaning.specs.Writer.{shift_op, shift, Holds, risen, Inside, Settles, Plays}
use Rattle.meaning.specs.Writers.{plain, size, size_items, load, written, written_items}
use Rattle.meaning.proofs.Found.{number-found, newest-there}

-- ## Readings that can be written

-- Every name of a reading is in the table, and every expression that it asks is a record.
abbrev mutual
  pub Fine : Tables → ℕ → Reading → Type 0
  Fine T exprs unit = Unit {0}
  Fine T exprs yes = Unit {0}
  Fine T exprs (opaque e) = (0 < e) × (e < exprs)
  Fine T exprs no = Unit {0}
  Fine T exprs (name b) = (x : ℕ) × (number_of T b ≡ Some x)
  Fine T exprs (all is) = FineItems T exprs is
  Fine T exprs (any is) = FineItems T exprs is

  pub FineItems : Tables → ℕ → Items → Type 0
  FineItems T exprs end = Unit {0}
  FineItems T exprs (item p r is) = Fine T exprs r × FineItems T exprs is

-- ## Where parts of a segment stand

mutual
  pub length-written : (T : Tables) (r : Reading) (d : ℕ) → length (written T r d) ≡ size r
  length-written T unit d = refl
  length-written T yes d = refl
  length-written T (opaque e) d = refl
  length-written T no d = refl
  length-written T (name b) d = refl
  length-written T (all is) d = let e = length-items T is JumpIfFalse (suc (suc (size_items is + d))) d in simp length-append (omega arith)
  length-written T (any is) d = let e = length-items T is JumpIfTrue (suc (suc (size_items is + d))) d in simp length-append (omega arith)

  pub length-items : (T : Tables) (is : Items) (jump : ℕ → Op) (f d : ℕ) → length (written_items T is jump f d) ≡ size_items is
  length-items T end jump f d = refl
  length-items T (item p r is) jump f d = let e = length-written T r d in let g = length-items T is jump f (suc (size r + d)) in simp length-append (omega arith)

-- What stands from place a on, in two parts: the second stands where the first ends.
parts : (code : List Instr) (from : ℕ) (xs ys : List Instr) (a c : ℕ) → c ≡ a + length xs → Holds code from a (xs ++ ys) → Holds code from a xs × Holds code from c ys
parts code from [] ys a c e h = let q : a ≡ c = omega arith in (tt, subst (λ (k : ℕ). Holds code from k ys) q h)
parts code from (x ∷ xs) ys a c e h = let r = parts code from xs ys (suc a) c (omega arith) h.1 in ((h.0, r.0), r.1)

-- A throw leads to no question.
noted-landed : (T : Tables) (e : Effect) (w : World) → noted T (landed e) w ≡ w
noted-landed T (next m) w = refl
noted-landed T (goto t m) w = refl
noted-landed T (ask q u m) w = refl
noted-landed T (fault h p m) w = refl
noted-landed T (give h) w = refl
noted-landed T stuck w = refl

-- The conditional jump of a list: any of jumps where true decides, all of where false does.
abbrev pub jump_on : Bool → ℕ → Op
jump_on true = JumpIfTrue
jump_on false = JumpIfFalse

-- What decides such a list, and the handle of that.
abbrev pub truth_on : Bool → Truth
truth_on true = holds
truth_on false = fails

abbrev pub handle_on : Bool → ℕ
handle_on true = 2
handle_on false = 1

shift-jump : (from f g : ℕ) (on : Bool) → g ≡ from + f → shift_op from (jump_on on f) ≡ jump_on on g
shift-jump from f g true e = ap JumpIfTrue (sym e)
shift-jump from f g false e = ap JumpIfFalse (sym e)

-- ## Playing

-- A segment stands from place `from` on up to before `to`; it plays from the machine m, with room for a value more.
module _ (code : List Instr) (rows : List Row) (T : Tables) (from to : ℕ) (m : Mach) (room : length m.values + 1 ≤ 64) (A : Around) where
  abbrev Runs : (Conf → Type 0) → Conf → Type 0
  Runs Q c = Comes code rows T (λ d. Inside from to (length m.values + 1) d.state) Q c

  -- At a place of the segment, with the values vs above those of m.
  abbrev at : ℕ → List ℕ → Locals → World → Conf
  at i vs l w = conf (ready i (risen vs l m)) w

  -- What a part of the segment that ends at b comes to.
  abbrev Exit : ℕ → Got Locals → Conf → Type 0
  Exit b (got v σ) c = c ≡ at b (v ∷ []) σ.env σ.world
  Exit b (bad h p σ) c = (vs : List ℕ) × (length vs ≤ 1) × (c ≡ conf (landed (catches h p (risen vs σ.env m))) σ.world)
  Exit b (dry q B σ) c =
      (k : Question) × (u : Purpose) × (i : ℕ) × (vs : List ℕ) × (in_words T k ≡ q) × (from ≤ i) × (i < to) × (length vs ≤ 1)
      × (c ≡ conf (waits k u i (risen vs σ.env m)) σ.world)

  record Done (b : ℕ) (g : Got Locals) (c : Conf) : Type 0 where
    is : Exit b g c

  settled : {b : ℕ} {g : Got Locals} {c : Conf} → Exit b g c → Runs (Done b g) c
  settled q = here (record { is = q })

  onto : {Q Q' : Conf → Type 0} {c : Conf} → Runs Q c → ((d : Conf) → Q d → Runs Q' d) → Runs Q' c
  onto (here q) k = k _ q
  onto (then i e t) k = then i e (onto t k)

  -- The part from place a up to before b, begun with these slots, comes to g.
  abbrev Leads : ℕ → ℕ → Locals → World → Got Locals → Type 0
  Leads a b l w g = Runs (Done b g) (at a [] l w)

  -- One operation at a place of the segment.
  steps : {Q : Conf → Type 0} {i : ℕ} {n : Mach} {w : World} (x : Instr) (y : Effect) → from ≤ i → i < to → length n.values ≤ length m.values + 1
      → instr_at code i ≡ x → exec rows x.op x.at n ≡ y → Runs Q (conf (after y i) (noted T (after y i) w)) → Runs Q (conf (ready i n) w)
  steps {Q} {i} {n} {w} x y lo hi low e f t =
      then (lo, hi, low) (ap (λ (z : Instr). Some (conf (after (exec rows z.op z.at n) i) (noted T (after (exec rows z.op z.at n) i) w))) e ∙ ap (λ (z : Effect). Some (conf (after z i) (noted T (after z i) w))) f) t

  -- There is room for a value.
  pushed : (h : ℕ) (l : Locals) → pushes h (risen [] l m) ≡ next (risen (h ∷ []) l m)
  pushed h l = rw (lt-ltb (length m.values) 64 (omega arith))

  -- ### Questions

  -- While a question waits, what is fed is taken.
  takes-in : {Q : Conf → Type 0} {q : Question} {i : ℕ} {l : Locals} {w : World} {c : Conf} → from ≤ i → i < to
      → move code rows T (conf (waits q Push i (risen [] l m)) w) ≡ Some c → Runs Q c → Runs Q (conf (waits q Push i (risen [] l m)) w)
  takes-in lo hi e t = then (lo, hi, omega arith) e t

  -- A question that values answer waits at place i: the feed decides what comes of it.
  heard : (q : Question) → valued (in_words T q) ≡ true → doable (in_words T q) ≡ false → (i : ℕ) → from ≤ i → i < to → (f : List Event) (l : Locals) (qs : List Ask)
      → Runs (Done (suc i) (gotten (hears (find_slot T) (poke_slot T) (in_words T q) A f l qs))) (conf (waits q Push i (risen [] l m)) (record { feed = f; asked = qs }))
  heard q v d i lo hi [] l qs = settled (q, Push, i, [], refl, lo, hi, omega arith, refl)
  heard q v d i lo hi (value h ∷ f) l qs = rw v (takes-in lo hi (ap (λ (y : Effect). Some (conf (after y i) (record { feed = f; asked = qs }))) (pushed h l)) (settled refl))
  heard q v d i lo hi (done ∷ f) l qs = rw d (takes-in lo hi refl (heard q v d i lo hi f l qs))
  heard q v d i lo hi (fault h p ∷ f) l qs = takes-in lo hi refl (settled ([], omega arith, refl))
  heard q v d i lo hi (put b h ∷ f) l qs = takes-in lo hi refl (heard q v d i lo hi f (poke_slot T b h l) qs)

  -- ### Single operations

  -- An operation that pushes a handle.
  gives : {l : Locals} {w : World} (o : Op) (h i b : ℕ) → exec rows o nowhere (risen [] l m) ≡ pushes h (risen [] l m) → instr_at code i ≡ plain o → from ≤ i → i < to → suc i ≡ b
      → Leads i b l w (got h (st l w))
  gives {l} {w} o h i b f e lo hi next-is = steps (plain o) (next (risen (h ∷ []) l m)) lo hi (omega arith) e (f ∙ pushed h l) (settled (ap (λ (j : ℕ). at j (h ∷ []) l w) next-is))

  -- An operation that asks a question for a value.
  inquires : {l : Locals} {w : World} (o : Op) (q : Question) (i b : ℕ) → exec rows o nowhere (risen [] l m) ≡ ask q Push (risen [] l m) → valued (in_words T q) ≡ true → doable (in_words T q) ≡ false
      → instr_at code i ≡ plain o → from ≤ i → i < to → suc i ≡ b → Leads i b l w (gotten (asks (find_slot T) (poke_slot T) (in_words T q) A (st l w)))
  inquires {l} {w} o q i b f v d e lo hi next-is =
      let Q : ℕ → Type 0 = λ j. Leads i j l w (gotten (asks (find_slot T) (poke_slot T) (in_words T q) A (st l w))) in
      subst Q next-is (steps (plain o) (ask q Push (risen [] l m)) lo hi (omega arith) e f (heard q v d i lo hi w.feed l (in_words T q ∷ w.asked)))

  -- A name of the table: the newest slot's handle, or a question.
  loads : {l : Locals} {w : World} (b : Bytes) (x i c : ℕ) → number_of T b ≡ Some x → instr_at code i ≡ plain (LoadNamed x) → from ≤ i → i < to → suc i ≡ c
      → Leads i c l w (reads (find_slot T) (poke_slot T) (find_slot T b l) b A (st l w))
  loads {l} {w} b x i c e z lo hi next-is = rw e (go (newest x l.live) refl)
    where
      go : (o : Option ℕ) → newest x l.live ≡ o → Leads i c l w (reads (find_slot T) (poke_slot T) (cell_of (slot_of o l.live)) b A (st l w))
      go None f =
          subst (λ (y : Bytes). Leads i c l w (reads (find_slot T) (poke_slot T) None y A (st l w))) (number-found T b x e).1
          (inquires (LoadNamed x) (Name x) i c (ap (λ (o : Option ℕ). named x o (risen [] l m)) f) refl refl z lo hi next-is)
      go (Some j) f =
          let s = newest-there x l.live j f in
          let y : exec rows (LoadNamed x) nowhere (risen [] l m) ≡ pushes s.0.handle (risen [] l m) = rw (f, s.1) refl in
          rw s.1 (gives (LoadNamed x) s.0.handle i c y z lo hi next-is)

  -- A conditional jump on the value of an item.
  tests : (on : Bool) (v h i f b : ℕ) (p : Position) (σ : St Locals) (rest : Got Locals) → instr_at code i ≡ record { op = jump_on on f; at = p } → from ≤ i → i < to
      → Leads f b σ.env σ.world (got h σ) → Leads (suc i) b σ.env σ.world rest
      → Runs (Done b (decides (truth v) (truth_on on) h p σ rest)) (at i (v ∷ []) σ.env σ.world)
  tests on v h i f b p σ rest e lo hi hit on-to =
      steps (record { op = jump_on on f; at = p }) (branch on f p v (risen [] σ.env m)) lo hi (omega arith) e (elim on as (λ t. exec rows (jump_on t f) p (risen (v ∷ []) σ.env m) ≡ branch t f p v (risen [] σ.env m)) [ true ↦ refl | false ↦ refl ]) (go on (eqb v 1) (eqb v 2))
    where
      go : (on t u : Bool)
          → let y = cond t (cond on (next (risen [] σ.env m)) (goto f (risen [] σ.env m))) (cond u (cond on (goto f (risen [] σ.env m)) (next (risen [] σ.env m))) (fault 3 p (risen [] σ.env m))) in
          Runs (Done b (decides (cond t fails (cond u holds neither)) (truth_on on) h p σ rest)) (conf (after y i) (noted T (after y i) σ.world))
      go true true u = on-to
      go false true u = hit
      go true false true = hit
      go false false true = on-to
      go true false false = settled ([], omega arith, ap (conf (landed (catches 3 p (risen [] σ.env m)))) (noted-landed T (catches 3 p (risen [] σ.env m)) σ.world))
      go false false false = settled ([], omega arith, ap (conf (landed (catches 3 p (risen [] σ.env m)))) (noted-landed T (catches 3 p (risen [] σ.env m)) σ.world))

  -- ### Readings

  -- A part that goes on with the value of what stands before it.
  bound : {c : Conf} {a b : ℕ} (g : Got Locals) (k : ℕ → St Locals → Got Locals) → Runs (Done a g) c
      → ((v : ℕ) (σ : St Locals) → Runs (Done b (k v σ)) (at a (v ∷ []) σ.env σ.world)) → Runs (Done b (bind_got g k)) c
  bound {a} {b} g k t f = onto t (λ c q. go g c q.is)
    where
      go : (g : Got Locals) (c : Conf) → Exit a g c → Runs (Done b (bind_got g k)) c
      go (got v σ) c q = subst (λ (d : Conf). Runs (Done b (k v σ)) d) (sym q) (f v σ)
      go (bad h p σ) c q = settled q
      go (dry r B σ) c q = settled q

  -- A truth value as an operation of its own.
  truths : {l : Locals} {w : World} (on : Bool) (i b : ℕ) → instr_at code i ≡ plain (BoolOp on) → from ≤ i → i < to → suc i ≡ b → Leads i b l w (got (handle_on on) (st l w))
  truths true i b e lo hi next-is = gives (BoolOp true) 2 i b refl e lo hi next-is
  truths false i b e lo hi next-is = gives (BoolOp false) 1 i b refl e lo hi next-is

  -- The end of a list, at place c: the handle of a list that nothing decided, a jump past, and the handle of one that
  -- something decided.
  list-end : (on : Bool) (t c b : ℕ) → Holds code from c (plain (BoolOp (not on)) ∷ plain (Jump t) ∷ plain (BoolOp on) ∷ []) → b ≡ from + t → b ≡ c + 3 → from ≤ c → b ≤ to
      → ((l : Locals) (w : World) → Leads (suc (suc c)) b l w (got (handle_on on) (st l w))) × ((l : Locals) (w : World) → Leads c b l w (got (handle_on (not on)) (st l w)))
  list-end on t c b h e g lo hi = (λ l w. truths on (suc (suc c)) b h.1.1.0 (omega arith) (omega arith) (omega arith), λ l w. undecided l w)
    where
      undecided : (l : Locals) (w : World) → Leads c b l w (got (handle_on (not on)) (st l w))
      undecided l w =
          let v = handle_on (not on) in
          onto (truths {l = l} {w = w} (not on) c (suc c) h.0 lo (omega arith) refl)
          (λ x q. subst (λ (y : Conf). Runs (Done b (got v (st l w))) y) (sym q.is)
          (steps (plain (Jump b)) (goto b (risen (v ∷ []) l m)) (omega arith) (omega arith) (omega arith) (h.1.0 ∙ ap (λ (k : ℕ). plain (Jump k)) (sym e)) refl (settled refl)))

  -- The items of a list play, from a up to before c, where f is the place for what decides the list.
  abbrev ItemsPlay : Items → Bool → Type 0
  ItemsPlay is on =
      (t d a c f b : ℕ) → Holds code from a (written_items T is (jump_on on) t d) → a ≡ from + d → f ≡ from + t → c ≡ a + size_items is → c ≤ to
      → ((l : Locals) (w : World) → Leads f b l w (got (handle_on on) (st l w))) → ((l : Locals) (w : World) → Leads c b l w (got (handle_on (not on)) (st l w)))
      → (l : Locals) (w : World) → Leads a b l w (goes_through (find_slot T) (poke_slot T) is (truth_on on) (handle_on on) (handle_on (not on)) A (st l w))

  -- A list whose items play.
  list : (is : Items) (on : Bool) (d a b : ℕ) → ItemsPlay is on
      → Holds code from a (written_items T is (jump_on on) (suc (suc (size_items is + d))) d ++ (plain (BoolOp (not on)) ∷ plain (Jump (suc (suc (suc (size_items is + d))))) ∷ plain (BoolOp on) ∷ []))
      → a ≡ from + d → b ≡ a + suc (suc (suc (size_items is))) → b ≤ to
      → (l : Locals) (w : World) → Leads a b l w (goes_through (find_slot T) (poke_slot T) is (truth_on on) (handle_on on) (handle_on (not on)) A (st l w))
  list is on d a b items h e g hi l w =
      let t = size_items is + d in
      let c = a + size_items is in
      let s = length-items T is (jump_on on) (suc (suc t)) d in
      let hs = parts code from (written_items T is (jump_on on) (suc (suc t)) d) (plain (BoolOp (not on)) ∷ plain (Jump (suc (suc (suc t)))) ∷ plain (BoolOp on) ∷ []) a c (omega arith) h in
      let ends = list-end on (suc (suc (suc t))) c b hs.1 (omega arith) (omega arith) (omega arith) hi in
      items (suc (suc t)) d a c (suc (suc c)) b hs.0 e (omega arith) refl (omega arith) ends.0 ends.1 l w

  -- A reading that stands from a up to before b plays, and so do items.
  mutual
    plays : (exprs : ℕ) (r : Reading) (d a b : ℕ) → Fine T exprs r → Holds code from a (written T r d) → a ≡ from + d → b ≡ a + size r → b ≤ to
        → (l : Locals) (w : World) → Leads a b l w (reading (find_slot T) (poke_slot T) r A (st l w))
    plays exprs unit d a b z h e g hi l w = gives UnitOp 0 a b refl h.0 (omega arith) (omega arith) (omega arith)
    plays exprs yes d a b z h e g hi l w = truths true a b h.0 (omega arith) (omega arith) (omega arith)
    plays exprs (opaque x) d a b z h e g hi l w = inquires (EvalExpr x) (Expression x) a b refl refl refl h.0 (omega arith) (omega arith) (omega arith)
    plays exprs no d a b z h e g hi l w = truths false a b h.0 (omega arith) (omega arith) (omega arith)
    plays exprs (name n) d a b z h e g hi l w = loads n z.0 a b z.1 (h.0 ∙ ap (λ (o : Option ℕ). shift from (load o)) z.1) (omega arith) (omega arith) (omega arith)
    plays exprs (all is) d a b z h e g hi l w = list is false d a b (plays-items exprs is false z) h e g hi l w
    plays exprs (any is) d a b z h e g hi l w = list is true d a b (plays-items exprs is true z) h e g hi l w

    plays-items : (exprs : ℕ) (is : Items) (on : Bool) → FineItems T exprs is → ItemsPlay is on
    plays-items exprs end on z t d a c f b h e k g hi hit miss l w = let q : c ≡ a = omega arith in subst (λ (i : ℕ). Leads i b l w (got (handle_on (not on)) (st l w))) q (miss l w)
    plays-items exprs (item p r is) on z t d a c f b h e k g hi hit miss l w =
        let x = a + size r in
        let s = length-written T r d in
        let hs = parts code from (written T r d) (record { op = jump_on on t; at = p } ∷ written_items T is (jump_on on) t (suc (size r + d))) a x (omega arith) h in
        bound (reading (find_slot T) (poke_slot T) r A (st l w)) (λ v σ. decides (truth v) (truth_on on) (handle_on on) p σ (goes_through (find_slot T) (poke_slot T) is (truth_on on) (handle_on on) (handle_on (not on)) A σ))
        (plays exprs r d a x z.0 hs.0 e refl (omega arith) l w)
        (λ v σ. tests on v (handle_on on) x f b p σ (goes_through (find_slot T) (poke_slot T) is (truth_on on) (handle_on on) (handle_on (not on)) A σ)
        (hs.1.0 ∙ ap (λ (o : Op). record { op = o; at = p }) (shift-jump from t f on k)) (omega arith) (omega arith) (hit σ.env σ.world)
        (plays-items exprs is on z.1 t (suc (size r + d)) (suc x) c f b hs.1.1 (omega arith) k (omega arith) hi hit miss σ.env σ.world))

  -- What the whole segment comes to.
  settles : (g : Got Locals) (c : Conf) → Exit to g c → Settles T from to 1 m g c
  settles (got v σ) c q = q
  settles (bad h p σ) c q = q
  settles (dry k B σ) c q = q

-- A reading whose names are in the table keeps the law.
pub written-plays : (T : Tables) (exprs : ℕ) (r : Reading) → Fine T exprs r → Plays T 1 r (written T r 0)
written-plays T exprs r z code rows a m w A h room =
    let b = a + length (written T r 0) in
    let g = reading (find_slot T) (poke_slot T) r A (st m.slots w) in
    let s = length-written T r 0 in
    onto code rows T a b m room A {Q' = Settles T a b 1 m g} (plays code rows T a b m room A exprs r 0 a b z h (omega arith) (omega arith) (omega arith) m.slots w) (λ c q. here (settles code rows T a b m room A g c q.is))
