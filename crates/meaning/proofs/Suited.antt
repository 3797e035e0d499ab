-- What the player takes while a question waits is what that question takes: every operation asks with the purpose that
-- belongs to its question.
use Rattle.std.proofs.Common.{◌≡◌, ℕ, zero, suc, Bool, true, false, cond, eqb, ltb, leb, List, [], ◌∷◌, length, get_or, Some, None, Option, refl}
use Rattle.records.specs.declared.types.Position.{Position}
use Rattle.code.specs.declared.ops.Op.{Op}
use Rattle.code.specs.declared.ops.Op.TheVariants.{Unit as UnitOp, Bool as BoolOp, StoreLocal, LoadNamed, AssignNamed, AssignLocal, DeclareLocal, Pop, Jump, JumpIfTrue, JumpIfFalse, Rotate, UnwindTo, Tick, Checkpoint, EvalAst, PushHandler, PopHandler, IterInit, IterNext, IterDrop, StoreShared, Throw, Return, EvalExpr, Foreign}
use Rattle.code.specs.declared.ops.Instr.{Instr}
use Rattle.code.specs.declared.ops.Row.{Row}
use Rattle.code.specs.declared.talk.Slot.{Slot}
use Rattle.code.specs.declared.talk.Handler.{Handler}
use Rattle.code.specs.declared.talk.Answer.{Answer}
use Rattle.code.specs.declared.talk.Answer.TheVariants.{Value, Done, Fault}
use Rattle.code.specs.declared.talk.Purpose.{Purpose}
use Rattle.code.specs.declared.talk.Purpose.TheVariants.{Push, Store, Assigned, Open, Advance}
use Rattle.meaning.specs.Machine.{Locals, Mach, Effect, Effect.next, Effect.goto, Effect.ask, Effect.fault, Effect.give, Effect.stuck, popping, pushes, branch, slotted, newest, slot_at, named, combines, no_row, disarming, advancing, dropping, exec, takes, resume}
use Rattle.meaning.specs.Throws.{catches}
use Rattle.meaning.specs.Calls.{State, State.ready, State.waits, State.ended, State.halted, instr_at, landed, after, step, loaded, Call, Call.run, Call.answer, Call.look, Call.put, declines, goes, plays, limit_ok, answered, told, Reply.found, handle_of, lookup, seen, overwritten, putting, does, after_calls}
use Rattle.meaning.specs.Declines.{suits, Suited}

-- ## Effects

-- An effect that asks has a purpose that takes what the question takes.
abbrev Paired : Effect → Type 0
Paired (next m) = Unit {0}
Paired (goto t m) = Unit {0}
Paired (ask q u m) = (a : Answer) → takes u a ≡ suits q a
Paired (fault h p m) = Unit {0}
Paired (give h) = Unit {0}
Paired stuck = Unit {0}

either : (b : Bool) (x y : Effect) → Paired x → Paired y → Paired (cond b x y)
either true x y p q = p
either false x y p q = q

popped : (vs : List ℕ) (k : ℕ → Mach → Effect) (m : Mach) → ((v : ℕ) (n : Mach) → Paired (k v n)) → Paired (popping vs k m)
popped [] k m f = tt
popped (v ∷ vs) k m f = f v _

slot : (o : Option Slot) (k : Slot → Effect) → ((s : Slot) → Paired (k s)) → Paired (slotted o k)
slot None k f = tt
slot (Some s) k f = f s

dropped : (is : List ℕ) (k : Mach → Effect) (m : Mach) → ((n : Mach) → Paired (k n)) → Paired (dropping is k m)
dropped [] k m f = tt
dropped (i ∷ is) k m f = f _

pushes-paired : (h : ℕ) (m : Mach) → Paired (pushes h m)
pushes-paired h m = either (ltb (length m.values) 64) _ _ tt tt

named-paired : (x : ℕ) (o : Option ℕ) (m : Mach) → Paired (named x o m)
named-paired x None m = elim [ Value h ↦ refl | Done ↦ refl | Fault h p ↦ refl ]
named-paired x (Some i) m = slot (slot_at i m.slots.live) _ (λ s. pushes-paired s.handle m)

combines-paired : (i : ℕ) (o : Option ℕ) (s : Slot) (v : ℕ) (m : Mach) → Paired (combines i o s v m)
combines-paired i None s v m = slot (slot_at i m.slots.live) _ (λ s. tt)
combines-paired i (Some r) s v m = elim [ Value h ↦ refl | Done ↦ refl | Fault h p ↦ refl ]

disarming-paired : (hs : List Handler) (m : Mach) → Paired (disarming hs m)
disarming-paired [] m = tt
disarming-paired (h ∷ hs) m = tt

advancing-paired : (is : List ℕ) (t : ℕ) (m : Mach) → Paired (advancing is t m)
advancing-paired [] t m = tt
advancing-paired (i ∷ is) t m = elim [ Value h ↦ refl | Done ↦ refl | Fault h p ↦ refl ]

branch-paired : (on : Bool) (t : ℕ) (p : Position) (v : ℕ) (m : Mach) → Paired (branch on t p v m)
branch-paired on t p v m = either (eqb v 1) _ _ (either on _ _ tt tt) (either (eqb v 2) _ _ (either on _ _ tt tt) tt)

-- Every operation asks with the purpose that belongs to its question.
exec-paired : (rows : List Row) (o : Op) (p : Position) (m : Mach) → Paired (exec rows o p m)
exec-paired rows UnitOp p m = pushes-paired 0 m
exec-paired rows (BoolOp true) p m = pushes-paired 2 m
exec-paired rows (BoolOp false) p m = pushes-paired 1 m
exec-paired rows (StoreLocal i k) p m = popped m.values _ m (λ v n. slot (slot_at i n.slots.live) _ (λ s. tt))
exec-paired rows (LoadNamed x) p m = named-paired x (newest x m.slots.live) m
exec-paired rows (AssignNamed x o) p m = popped m.values _ m (λ v n. elim [ Value h ↦ refl | Done ↦ refl | Fault h q ↦ refl ])
exec-paired rows (AssignLocal i x o) p m = popped m.values _ m (λ v n. slot (slot_at i n.slots.live) _ (λ s. either s.constant _ _ tt (combines-paired i o s v n)))
exec-paired rows (DeclareLocal x k g) p m = popped m.values _ m (λ v n. either (ltb (length n.slots.live) n.slots.room) _ _ tt tt)
exec-paired rows Pop p m = popped m.values _ m (λ v n. tt)
exec-paired rows (Jump t) p m = tt
exec-paired rows (JumpIfTrue t) p m = popped m.values _ m (branch-paired true t p)
exec-paired rows (JumpIfFalse t) p m = popped m.values _ m (branch-paired false t p)
exec-paired rows (Rotate n) p m = either (eqb n 0) _ _ tt (popped m.values _ m (λ v k. either (leb n (length k.values)) _ _ tt tt))
exec-paired rows (UnwindTo n) p m = either (leb n (length m.slots.live)) _ _ tt tt
exec-paired rows Tick p m = tt
exec-paired rows Checkpoint p m = tt
exec-paired rows (EvalAst r w) p m = either (ltb r (length rows)) _ _ (either (eqb (get_or rows r no_row).kind 1) _ _ (elim [ Value h ↦ refl | Done ↦ refl | Fault h q ↦ refl ]) (either (eqb (get_or rows r no_row).kind 2) _ _ (elim [ Value h ↦ refl | Done ↦ refl | Fault h q ↦ refl ]) tt)) tt
exec-paired rows (PushHandler t x) p m = either (ltb (length m.handlers) 64) _ _ tt tt
exec-paired rows PopHandler p m = disarming-paired m.handlers m
exec-paired rows IterInit p m = either (ltb (length m.iters) 64) _ _ (popped m.values _ m (λ v n. elim [ Value h ↦ refl | Done ↦ refl | Fault h q ↦ refl ])) tt
exec-paired rows (IterNext t None) p m = advancing-paired m.iters t m
exec-paired rows (IterNext t (Some c)) p m = tt
exec-paired rows IterDrop p m = dropped m.iters _ m (λ n. tt)
exec-paired rows (StoreShared i) p m = popped m.values _ m (λ v n. slot (slot_at i n.slots.live) _ (λ s. tt))
exec-paired rows Throw p m = popped m.values _ m (λ v n. tt)
exec-paired rows Return p m = popped m.values _ m (λ v n. tt)
exec-paired rows (EvalExpr e) p m = elim [ Value h ↦ refl | Done ↦ refl | Fault h q ↦ refl ]
exec-paired rows (Foreign n) p m = tt

-- An answer asks nothing.
resume-paired : (u : Purpose) (a : Answer) (m : Mach) → Paired (resume u a m)
resume-paired u (Fault h p) m = tt
resume-paired Push (Value h) m = pushes-paired h m
resume-paired (Store i) (Value h) m = slot (slot_at i m.slots.live) _ (λ s. tt)
resume-paired Assigned (Value h) m = tt
resume-paired Open (Value h) m = either (ltb (length m.iters) 64) _ _ tt tt
resume-paired (Advance t) (Value h) m = pushes-paired h m
resume-paired Push Done m = tt
resume-paired (Store i) Done m = tt
resume-paired Assigned Done m = tt
resume-paired Open Done m = tt
resume-paired (Advance t) Done m = dropped m.iters _ m (λ n. tt)

-- ## States

landed-suited : (e : Effect) → Suited (landed e)
landed-suited (next m) = tt
landed-suited (goto t m) = tt
landed-suited (ask q u m) = tt
landed-suited (fault h p m) = tt
landed-suited (give h) = tt
landed-suited stuck = tt

after-suited : (e : Effect) (i : ℕ) → Paired e → Suited (after e i)
after-suited (next m) i p = tt
after-suited (goto t m) i p = tt
after-suited (ask q u m) i p = p
after-suited (fault h p m) i z = landed-suited (catches h p m)
after-suited (give h) i p = tt
after-suited stuck i p = tt

answered-suited : (s : State) → Suited s → Suited (answered s).left
answered-suited (ready i m) z = tt
answered-suited (waits q u i m) z = z
answered-suited (ended e) z = tt
answered-suited halted z = tt

module _ (code : List Instr) (rows : List Row) (names : ℕ) where
  plays-suited : (k n i : ℕ) (m : Mach) → Suited (plays code rows k n i m).left
  unfolding plays
  plays-suited zero n i m = tt
  plays-suited (suc k) n i m = on (step code rows i m) (after-suited (exec rows (instr_at code i).op (instr_at code i).at m) i (exec-paired rows (instr_at code i).op (instr_at code i).at m)) (plays-suited k (suc n))
    where
      on : (s : State) → Suited s → ((j : ℕ) (l : Mach) → Suited (plays code rows k (suc n) j l).left) → Suited (goes (plays code rows k (suc n)) (suc n) s).left
      on (ready j l) z r = r j l
      on (waits q u j l) z r = z
      on (ended e) z r = tt
      on halted z r = tt

  seen-suited : (x : ℕ) (m : Mach) (s : State) → Suited s → Suited (seen names x m s).left
  seen-suited x m s z = on (ltb x names)
    where
      on : (b : Bool) → Suited (cond b (told (found (handle_of (lookup x m.slots.live))) s) (declines 34 s)).left
      on true = z
      on false = z

  does-suited : (c : Call) (s : State) → Suited s → Suited (does code rows names c s).left
  does-suited (run n) (ready i m) z = on (limit_ok n)
    where
      on : (b : Bool) → Suited (cond b (plays code rows n 0 i m) (declines 34 (ready i m))).left
      on true = plays-suited n 0 i m
      on false = tt
  does-suited (run n) (waits q u i m) z = z
  does-suited (run n) (ended e) z = tt
  does-suited (run n) halted z = tt
  does-suited (answer a) (ready i m) z = tt
  does-suited (answer a) (waits q u i m) z = on (takes u a)
    where
      on : (b : Bool) → Suited (cond b (answered (after (resume u a m) i)) (declines 34 (waits q u i m))).left
      on true = answered-suited (after (resume u a m) i) (after-suited (resume u a m) i (resume-paired u a m))
      on false = z
  does-suited (answer a) (ended e) z = tt
  does-suited (answer a) halted z = tt
  does-suited (look x) (ready i m) z = seen-suited x m (ready i m) z
  does-suited (look x) (waits q u i m) z = seen-suited x m (waits q u i m) z
  does-suited (look x) (ended e) z = tt
  does-suited (look x) halted z = tt
  does-suited (put x h) (ready i m) z = tt
  does-suited (put x h) (waits q u i m) z = on (ltb x names) (overwritten x h m.slots)
    where
      on : (b : Bool) (o : Option Locals) → Suited (cond b (putting o q u i m) (declines 34 (waits q u i m))).left
      on true None = z
      on true (Some l) = z
      on false o = z
  does-suited (put x h) (ended e) z = tt
  does-suited (put x h) halted z = tt

  from-suited : (cs : List Call) (s : State) → Suited s → Suited (after_calls code rows names cs s)
  from-suited [] s z = z
  from-suited (c ∷ cs) s z = from-suited cs (does code rows names c s).left (does-suited c s z)

  -- After every list of calls from load.
  pub calls-suited : (room : ℕ) (cs : List Call) → Suited (after_calls code rows names cs (loaded room))
  calls-suited room cs = from-suited cs (loaded room) tt
