-- A call is declined exactly where its number applies, and changes nothing then; a run's count is right.
use Rattle.std.proofs.Common.{◌≡◌, ℕ, zero, suc, ◌+◌, ◌≤◌, Bool, true, false, cond, not, ◌||◌, ltb, leb, List, Some, None, Option, sym, refl, ap, ◌∙◌, subst, arith, le-ltb, lt-ltb, leb-false, leb-true}
use Rattle.code.specs.declared.ops.Instr.{Instr}
use Rattle.code.specs.declared.ops.Row.{Row}
use Rattle.code.specs.declared.talk.Slot.{Slot}
use Rattle.code.specs.declared.talk.Question.{Question}
use Rattle.code.specs.declared.talk.Purpose.{Purpose}
use Rattle.meaning.specs.Machine.{Locals, Mach, takes, resume, slot_at, newest}
use Rattle.meaning.specs.Calls.{State, State.ready, State.waits, State.ended, State.halted, after, step, Call, Call.run, Call.answer, Call.look, Call.put, Reply, Reply.spent, Reply.asks, Reply.ends, Reply.sticks, Reply.taken, Reply.over, Reply.jammed, Reply.found, Reply.declined, Told, told, declines, goes, plays, limit_ok, runs, answered, handle_of, slot_of, lookup, seen, rewritten, rewritten_at, putting, does}
use Rattle.meaning.specs.Declines.{locked, why, Declining, Steps, GoesOn, WaitsWith, CountRight}

-- ## Why a call is declined

-- The number with which a reply declines, if it does.
abbrev refusal : Reply → Option ℕ
refusal (spent n) = None
refusal (asks n q) = None
refusal (ends n e) = None
refusal (sticks n) = None
refusal taken = None
refusal (over e) = None
refusal jammed = None
refusal (found o) = None
refusal (declined n) = Some n

-- With a number a call declines, and without one it does not.
abbrev Fits : State → Told → Option ℕ → Type 0
Fits s t None = refusal t.reply ≡ None
Fits s t (Some k) = t ≡ declines k s

leb-not : (a b : ℕ) → leb a b ≡ not (ltb b a)
leb-not a b = on (leb a b) refl
  where
    on : (t : Bool) → leb a b ≡ t → t ≡ not (ltb b a)
    on true e = sym (ap not (le-ltb b a (leb-true a b e)))
    on false e = sym (ap not (lt-ltb b a (leb-false a b e)))

answered-fits : (s : State) → refusal (answered s).reply ≡ None
answered-fits (ready i m) = refl
answered-fits (waits k u i m) = refl
answered-fits (ended e) = refl
answered-fits halted = refl

seen-fits : (names x : ℕ) (m : Mach) (s : State) → Fits s (seen names x m s) (cond (leb names x) (Some 34) None)
seen-fits names x m s = subst (λ t. Fits s (seen names x m s) (cond t (Some 34) None)) (sym (leb-not names x)) (on (ltb x names))
  where
    on : (t : Bool) → Fits s (cond t (told (found (handle_of (lookup x m.slots.live))) s) (declines 34 s)) (cond (not t) (Some 34) None)
    on true = refl
    on false = refl

-- What may not be written is not live, or constant.
putting-fits :
    (h : ℕ) (q : Question) (u : Purpose) (i : ℕ) (m : Mach) (o : Option ℕ)
    → Fits (waits q u i m) (putting (rewritten_at o h m.slots) q u i m) (cond (locked (slot_of o m.slots.live)) (Some 35) None)
putting-fits h q u i m None = refl
putting-fits h q u i m (Some j) = at (slot_at j m.slots.live)
  where
    on : (l : Locals) (b : Bool) → Fits (waits q u i m) (putting (cond b None (Some l)) q u i m) (cond b (Some 35) None)
    on l true = refl
    on l false = refl

    at : (o : Option Slot) → Fits (waits q u i m) (putting (rewritten j h o m.slots) q u i m) (cond (locked o) (Some 35) None)
    at None = refl
    at (Some s) = on _ s.constant

module _ (code : List Instr) (rows : List Row) where
  plays-fits : (k n i : ℕ) (m : Mach) → refusal (plays code rows k n i m).reply ≡ None
  unfolding plays
  plays-fits zero n i m = refl
  plays-fits (suc k) n i m = on (step code rows i m) (plays-fits k (suc n))
    where
      on : (s : State) → ((j : ℕ) (l : Mach) → refusal (plays code rows k (suc n) j l).reply ≡ None) → refusal (goes (plays code rows k (suc n)) (suc n) s).reply ≡ None
      on (ready j l) r = r j l
      on (waits q u j l) r = refl
      on (ended e) r = refl
      on halted r = refl

  run_fits : (n i : ℕ) (m : Mach) → Fits (ready i m) (runs code rows n (ready i m)) (cond (ltb n 1 || ltb 1000000 n) (Some 34) None)
  run_fits n i m = subst (λ t. Fits (ready i m) (cond (cond (ltb n 1) false t) (plays code rows n 0 i m) (declines 34 (ready i m))) (cond (ltb n 1 || ltb 1000000 n) (Some 34) None)) (sym (leb-not n 1000000)) (on (ltb n 1) (ltb 1000000 n))
    where
      on : (a b : Bool) → Fits (ready i m) (cond (cond a false (not b)) (plays code rows n 0 i m) (declines 34 (ready i m))) (cond (a || b) (Some 34) None)
      on true b = refl
      on false true = refl
      on false false = plays-fits n 0 i m

  does-fits : (names : ℕ) (c : Call) (s : State) → Fits s (does code rows names c s) (why names c s)
  does-fits names (run n) (ready i m) = run_fits n i m
  does-fits names (run n) (waits q u i m) = refl
  does-fits names (run n) (ended e) = refl
  does-fits names (run n) halted = refl
  does-fits names (answer a) (ready i m) = refl
  does-fits names (answer a) (waits q u i m) = on (takes u a)
    where
      on : (t : Bool) → Fits (waits q u i m) (cond t (answered (after (resume u a m) i)) (declines 34 (waits q u i m))) (cond (not t) (Some 34) None)
      on true = answered-fits (after (resume u a m) i)
      on false = refl
  does-fits names (answer a) (ended e) = refl
  does-fits names (answer a) halted = refl
  does-fits names (look x) (ready i m) = seen-fits names x m (ready i m)
  does-fits names (look x) (waits q u i m) = seen-fits names x m (waits q u i m)
  does-fits names (look x) (ended e) = refl
  does-fits names (look x) halted = refl
  does-fits names (put x h) (ready i m) = refl
  does-fits names (put x h) (waits q u i m) =
      subst (λ t. Fits (waits q u i m) (does code rows names (put x h) (waits q u i m)) (cond t (Some 34) (cond (locked (lookup x m.slots.live)) (Some 35) None))) (sym (leb-not names x)) (on (ltb x names))
    where
      on :
          (t : Bool)
          → Fits (waits q u i m) (cond t (putting (rewritten_at (newest x m.slots.live) h m.slots) q u i m) (declines 34 (waits q u i m))) (cond (not t) (Some 34) (cond (locked (lookup x m.slots.live)) (Some 35) None))
      on true = putting-fits h q u i m (newest x m.slots.live)
      on false = refl
  does-fits names (put x h) (ended e) = refl
  does-fits names (put x h) halted = refl

  -- A call is declined exactly where its number applies, and changes nothing then.
  pub declining : (names : ℕ) (c : Call) (s : State) → Declining code rows names c s
  declining names c s = record {
    only = λ k e. on (why names c s) (does-fits names c s) k e;
    always = λ k e. ap (λ t. t.reply) (number k e);
    unchanged = λ k e. ap (λ t. t.left) (number k e);
  }
    where
      number : (k : ℕ) → why names c s ≡ Some k → does code rows names c s ≡ declines k s
      number k e = subst (Fits s (does code rows names c s)) e (does-fits names c s)

      on : (w : Option ℕ) → Fits s (does code rows names c s) w → (k : ℕ) → (does code rows names c s).reply ≡ declined k → w ≡ Some k
      on None z k e = sym z ∙ ap refusal e
      on (Some j) z k e = sym (ap (λ t. refusal t.reply) z) ∙ ap refusal e

-- ## The count of a run

-- What a run shows that took d steps after c others, of n at most.
abbrev Shown : ℕ → ℕ → ℕ → Reply → State → Type 0
Shown c d n (spent k) t = (k ≡ c + d) × (d ≡ n) × GoesOn t
Shown c d n (asks k q) t = (k ≡ c + d) × (1 ≤ d) × (d ≤ n) × WaitsWith q t
Shown c d n (ends k e) t = (k ≡ c + d) × (1 ≤ d) × (d ≤ n) × (t ≡ ended e)
Shown c d n (sticks k) t = (k ≡ c + d) × (1 ≤ d) × (d ≤ n) × (t ≡ halted)
Shown c d n taken t = ⊥
Shown c d n (over e) t = ⊥
Shown c d n jammed t = ⊥
Shown c d n (found o) t = ⊥
Shown c d n (declined k) t = ⊥

-- One step more before it.
shown-more : (c d n : ℕ) (r : Reply) (t : State) → Shown (suc c) d n r t → Shown c (suc d) (suc n) r t
shown-more c d n (spent k) t z = (omega arith, omega arith, z.2)
shown-more c d n (asks k q) t z = (omega arith, omega arith, omega arith, z.3)
shown-more c d n (ends k e) t z = (omega arith, omega arith, omega arith, z.3)
shown-more c d n (sticks k) t z = (omega arith, omega arith, omega arith, z.3)
shown-more c d n taken t z = absurd z
shown-more c d n (over e) t z = absurd z
shown-more c d n jammed t z = absurd z
shown-more c d n (found o) t z = absurd z
shown-more c d n (declined k) t z = absurd z

module _ (code : List Instr) (rows : List Row) where
  abbrev Took : ℕ → ℕ → State → Told → Type 0
  Took c n s t = (d : ℕ) × Shown c d n t.reply t.left × Steps code rows d s t.left

  plays-took : (n c i : ℕ) (m : Mach) → Took c n (ready i m) (plays code rows n c i m)
  unfolding plays
  plays-took zero c i m = (0, (omega arith, refl, tt), refl)
  plays-took (suc n) c i m = let r = on (step code rows i m) (plays-took n (suc c)) in (suc r.0, r.1, (i, m, refl, r.2))
    where
      on :
          (s : State) → ((j : ℕ) (l : Mach) → Took (suc c) n (ready j l) (plays code rows n (suc c) j l)) → let t = goes (plays code rows n (suc c)) (suc c) s in
          (d : ℕ) × Shown c (suc d) (suc n) t.reply t.left × Steps code rows d s t.left
      on (ready j l) f = let r = f j l in let t = plays code rows n (suc c) j l in (r.0, shown-more c r.0 n t.reply t.left r.1, r.2)
      on (waits q u j l) f = (0, (omega arith, omega arith, omega arith, refl), refl)
      on (ended e) f = (0, (omega arith, omega arith, omega arith, refl), refl)
      on halted f = (0, (omega arith, omega arith, omega arith, refl), refl)

  took-right : (n : ℕ) (s : State) (r : Reply) (t : State) (d : ℕ) → Shown 0 d n r t → Steps code rows d s t → CountRight code rows n s r t
  took-right n s (spent k) t d z y = (omega arith, subst (λ x. Steps code rows x s t) (omega arith) y, z.2)
  took-right n s (asks k q) t d z y = (omega arith, omega arith, subst (λ x. Steps code rows x s t) (omega arith) y, z.3)
  took-right n s (ends k e) t d z y = (omega arith, omega arith, subst (λ x. Steps code rows x s t) (omega arith) y, z.3)
  took-right n s (sticks k) t d z y = (omega arith, omega arith, subst (λ x. Steps code rows x s t) (omega arith) y, z.3)
  took-right n s taken t d z y = absurd z
  took-right n s (over e) t d z y = absurd z
  took-right n s jammed t d z y = absurd z
  took-right n s (found o) t d z y = absurd z
  took-right n s (declined k) t d z y = absurd z

  -- The count of every run is right.
  pub count-right : (names n : ℕ) (s : State) → let t = does code rows names (run n) s in CountRight code rows n s t.reply t.left
  count-right names n (ready i m) = on (limit_ok n)
    where
      on : (b : Bool) → let t = cond b (plays code rows n 0 i m) (declines 34 (ready i m)) in CountRight code rows n (ready i m) t.reply t.left
      on true = let r = plays-took n 0 i m in let t = plays code rows n 0 i m in took-right n (ready i m) t.reply t.left r.0 r.1 r.2
      on false = refl
  count-right names n (waits q u i m) = refl
  count-right names n (ended e) = refl
  count-right names n halted = refl
