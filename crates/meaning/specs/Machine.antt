-- The player's machine: what each operation does to its values, slots, iterators and handlers.
use Rattle.std.specs.Prelude.{ℕ, zero, suc, ◌+◌, Bool, true, false, cond, List, [], ◌∷◌, ◌++◌, length, take, drop, Some, None, Option, ◌==◌, nat_le, nat_lt, slice_index_or, slice_set}
use Rattle.records.specs.declared.types.Position.{Position}
use Rattle.code.specs.declared.ops.Op.{Op}
use Rattle.code.specs.declared.ops.Op.TheVariants.{Unit as UnitOp, Bool as BoolOp, StoreLocal, LoadNamed, AssignNamed, AssignLocal, DeclareLocal, Pop, Jump, JumpIfTrue, JumpIfFalse, Rotate, UnwindTo, Tick, Checkpoint, EvalAst, PushHandler, PopHandler, IterInit, IterNext, IterDrop, StoreShared, Throw, Return, EvalExpr, Foreign}
use Rattle.code.specs.declared.ops.Row.{Row}
use Rattle.code.specs.declared.talk.Slot.{Slot}
use Rattle.code.specs.declared.talk.Handler.{Handler}
use Rattle.code.specs.declared.talk.Answer.{Answer}
use Rattle.code.specs.declared.talk.Answer.TheVariants.{Value, Done, Fault}
use Rattle.code.specs.declared.talk.Question.{Question}
use Rattle.code.specs.declared.talk.Question.TheVariants.{Expression, Statement, Name, Combine, Assign, Iterate, Next}
use Rattle.code.specs.declared.talk.Purpose.{Purpose}
use Rattle.code.specs.declared.talk.Purpose.TheVariants.{Push, Store, Assigned, Open, Advance}

-- ## Slots

-- The live slots, the oldest first, and how many the caller's memory has room for.
pub record Locals : Type 0 where
  pub room : ℕ
  pub live : List Slot

-- One slot more; the oldest n only; another slot in the place of slot i.
abbrev pub add : Slot → Locals → Locals
add s l = record { room = l.room; live = l.live ++ s ∷ [] }

abbrev pub cut : ℕ → Locals → Locals
cut n l = record { room = l.room; live = take n l.live }

abbrev pub put : ℕ → Slot → Locals → Locals
put i s l = record { room = l.room; live = slice_set l.live i s }

-- The slot at a place, if there is one.
abbrev pub slot_at : ℕ → List Slot → Option Slot
slot_at i [] = None
slot_at zero (s ∷ ss) = Some s
slot_at (suc i) (s ∷ ss) = slot_at i ss

-- The place of the newest slot of a name: the last one met from the oldest on.
abbrev pub newest_from : ℕ → ℕ → Option ℕ → List Slot → Option ℕ
newest_from x i o [] = o
newest_from x i o (s ∷ ss) = newest_from x (i + 1) (cond (s.name == x) (Some i) o) ss

unfoldable pub newest : ℕ → List Slot → Option ℕ
newest x ss = newest_from x 0 None ss

-- ## State

-- Values, iterators and handlers have the newest first; there are at most 64 of each.
pub record Mach : Type 0 where
  pub values : List ℕ
  pub iters : List ℕ
  pub handlers : List Handler
  pub slots : Locals

-- What an operation comes to: the next operation, another place, a question with what its answer is for, a fault,
-- an end with a value, or stuck.
pub data Effect : Type 0 where
  next : Mach → Effect
  goto : ℕ → Mach → Effect
  ask : Question → Purpose → Mach → Effect
  fault : ℕ → Position → Mach → Effect
  give : ℕ → Effect
  stuck : Effect

abbrev pub with_values : List ℕ → Mach → Mach
with_values vs m = record { values = vs; iters = m.iters; handlers = m.handlers; slots = m.slots }

abbrev pub with_iters : List ℕ → Mach → Mach
with_iters is m = record { values = m.values; iters = is; handlers = m.handlers; slots = m.slots }

abbrev pub with_handlers : List Handler → Mach → Mach
with_handlers hs m = record { values = m.values; iters = m.iters; handlers = hs; slots = m.slots }

abbrev pub with_slots : Locals → Mach → Mach
with_slots l m = record { values = m.values; iters = m.iters; handlers = m.handlers; slots = l }

-- ## Values

-- The newest value is taken; without one the player is stuck.
abbrev pub popping : List ℕ → (ℕ → Mach → Effect) → Mach → Effect
popping [] k m = stuck
popping (v ∷ vs) k m = k v (with_values vs m)

-- A value more; at 64 the player is stuck.
abbrev pub pushes : ℕ → Mach → Effect
pushes h m = cond (nat_lt (length m.values) 64) (next (with_values (h ∷ m.values) m)) stuck

abbrev pub pops : Mach → Effect
pops m = popping m.values (λ v n. next n) m

-- The newest value goes below n others.
abbrev pub rotates : ℕ → Mach → Effect
rotates n m = cond (n == 0) (next m) (popping m.values (λ v k. cond (nat_le n (length k.values)) (next (with_values (take n k.values ++ (v ∷ drop n k.values)) k)) stuck) m)

-- A conditional jump: handle 2 is true, 1 is false, and any other faults with handle 3.
abbrev pub branch : Bool → ℕ → Position → ℕ → Mach → Effect
branch on t p v m = cond (v == 1) (cond on (next m) (goto t m)) (cond (v == 2) (cond on (goto t m) (next m)) (fault 3 p m))

abbrev pub branches : Bool → ℕ → Position → Mach → Effect
branches on t p m = popping m.values (branch on t p) m

abbrev pub throws : Position → Mach → Effect
throws p m = popping m.values (λ v n. fault v p n) m

abbrev pub gives : Mach → Effect
gives m = popping m.values (λ v n. give v) m

-- ## Variables

abbrev pub slotted : Option Slot → (Slot → Effect) → Effect
slotted None k = stuck
slotted (Some s) k = k s

abbrev pub binds : Slot → Mach → Effect
binds s m = cond (nat_lt (length m.slots.live) m.slots.room) (next (with_slots (add s m.slots) m)) stuck

abbrev pub declares : ℕ → Bool → Mach → Effect
declares x k m = popping m.values (λ v n. binds (record { name = x; handle = v; constant = k }) n) m

abbrev pub unwinds : ℕ → Mach → Effect
unwinds n m = cond (nat_le n (length m.slots.live)) (next (with_slots (cut n m.slots) m)) stuck

-- `LoadNamed` takes the newest live slot, else asks.
abbrev pub named : ℕ → Option ℕ → Mach → Effect
named x None m = ask (Name x) Push m
named x (Some i) m = slotted (slot_at i m.slots.live) (λ s. pushes s.handle m)

abbrev pub loads_named : ℕ → Mach → Effect
loads_named x m = named x (newest x m.slots.live) m

-- `StoreLocal` sets the handle and whether the slot is constant.
abbrev pub stores : ℕ → Bool → Mach → Effect
stores i k m = popping m.values (λ v n. slotted (slot_at i n.slots.live) (λ s. next (with_slots (put i (record { name = s.name; handle = v; constant = k }) n.slots) n))) m

-- The handle alone.
abbrev pub overwrites : ℕ → ℕ → Mach → Effect
overwrites i v m = slotted (slot_at i m.slots.live) (λ s. next (with_slots (put i (record { name = s.name; handle = v; constant = s.constant }) m.slots) m))

abbrev pub stores_shared : ℕ → Mach → Effect
stores_shared i m = popping m.values (λ v n. overwrites i v n) m

-- `AssignLocal`: a constant faults with handle 4; an operator asks what it makes of old and new.
abbrev pub combines : ℕ → Option ℕ → Slot → ℕ → Mach → Effect
combines i None s v m = overwrites i v m
combines i (Some row) s v m = ask (Combine row s.handle v) (Store i) m

abbrev pub assigns : ℕ → Option ℕ → Position → Mach → Effect
assigns i row p m = popping m.values (λ v n. slotted (slot_at i n.slots.live) (λ s. cond s.constant (fault 4 p n) (combines i row s v n))) m

abbrev pub assigns_named : ℕ → Option ℕ → Mach → Effect
assigns_named x row m = popping m.values (λ v n. ask (Assign x row v) Assigned n) m

-- ## Residual rows

abbrev pub no_row : Row
no_row = record { kind = 0; number = 0 }

-- A row 1 asks its expression, a row 2 its statement.
abbrev pub evaluating : Row → Mach → Effect
evaluating r m = cond (r.kind == 1) (ask (Expression r.number) Push m) (cond (r.kind == 2) (ask (Statement r.number) Push m) stuck)

abbrev pub evaluates : List Row → ℕ → Mach → Effect
evaluates rows i m = cond (nat_lt i (length rows)) (evaluating (slice_index_or rows i no_row) m) stuck

-- ## Handlers

-- `PushHandler` records the heights.
abbrev pub arms : ℕ → Option ℕ → Mach → Effect
arms t x m =
    cond (nat_lt (length m.handlers) 64)
    (next (with_handlers (record { armed = true; target = t; name = x; values = length m.values; slots = length m.slots.live; iters = length m.iters } ∷ m.handlers) m))
    stuck

abbrev pub disarming : List Handler → Mach → Effect
disarming [] m = stuck
disarming (h ∷ hs) m = next (with_handlers hs m)

abbrev pub disarms : Mach → Effect
disarms m = disarming m.handlers m

-- ## Iterators

-- `IterInit` asks for an iterator, if there is room to open it.
abbrev pub opening : Mach → Effect
opening m = cond (nat_lt (length m.iters) 64) (popping m.values (λ v n. ask (Iterate v) Open n) m) stuck

abbrev pub begins : ℕ → Mach → Effect
begins h m = cond (nat_lt (length m.iters) 64) (next (with_iters (h ∷ m.iters) m)) stuck

-- `IterNext` asks the newest iterator.
abbrev pub advancing : List ℕ → ℕ → Mach → Effect
advancing [] t m = stuck
advancing (h ∷ is) t m = ask (Next h) (Advance t) m

abbrev pub advances : ℕ → Mach → Effect
advances t m = advancing m.iters t m

abbrev pub dropping : List ℕ → (Mach → Effect) → Mach → Effect
dropping [] k m = stuck
dropping (i ∷ is) k m = k (with_iters is m)

abbrev pub drops : Mach → Effect
drops m = dropping m.iters next m

abbrev pub finishes : ℕ → Mach → Effect
finishes t m = dropping m.iters (goto t) m

-- ## One operation

abbrev pub exec : List Row → Op → Position → Mach → Effect
exec rows UnitOp p m = pushes 0 m
exec rows (BoolOp true) p m = pushes 2 m
exec rows (BoolOp false) p m = pushes 1 m
exec rows (StoreLocal i k) p m = stores i k m
exec rows (LoadNamed x) p m = loads_named x m
exec rows (AssignNamed x o) p m = assigns_named x o m
exec rows (AssignLocal i x o) p m = assigns i o p m
exec rows (DeclareLocal x k g) p m = declares x k m
exec rows Pop p m = pops m
exec rows (Jump t) p m = goto t m
exec rows (JumpIfTrue t) p m = branches true t p m
exec rows (JumpIfFalse t) p m = branches false t p m
exec rows (Rotate n) p m = rotates n m
exec rows (UnwindTo n) p m = unwinds n m
exec rows Tick p m = next m
exec rows Checkpoint p m = next m
exec rows (EvalAst r w) p m = evaluates rows r m
exec rows (PushHandler t x) p m = arms t x m
exec rows PopHandler p m = disarms m
exec rows IterInit p m = opening m
exec rows (IterNext t None) p m = advances t m
exec rows (IterNext t (Some c)) p m = stuck
exec rows IterDrop p m = drops m
exec rows (StoreShared i) p m = stores_shared i m
exec rows Throw p m = throws p m
exec rows Return p m = gives m
exec rows (EvalExpr e) p m = ask (Expression e) Push m
exec rows (Foreign n) p m = stuck

-- ## Answers

-- Does an answer suit a question? A value for 1 to 4, 6 and 7, done for 5 and 7, a fault for all.
abbrev pub takes : Purpose → Answer → Bool
takes u (Fault h p) = true
takes Push (Value h) = true
takes (Store i) (Value h) = true
takes Assigned (Value h) = false
takes Open (Value h) = true
takes (Advance t) (Value h) = true
takes Push Done = false
takes (Store i) Done = false
takes Assigned Done = true
takes Open Done = false
takes (Advance t) Done = true

-- What an answer comes to.
abbrev pub resume : Purpose → Answer → Mach → Effect
resume u (Fault h p) m = fault h p m
resume Push (Value h) m = pushes h m
resume (Store i) (Value h) m = overwrites i h m
resume Assigned (Value h) m = stuck
resume Open (Value h) m = begins h m
resume (Advance t) (Value h) m = pushes h m
resume Push Done m = stuck
resume (Store i) Done m = stuck
resume Assigned Done m = next m
resume Open Done m = stuck
resume (Advance t) Done m = finishes t m
