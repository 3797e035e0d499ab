-- Expression writers: what an expression means, and the segment of operations that stands for it.
use Rattle.std.specs.Prelude.{◌≡◌, ℕ, suc, ◌+◌, ◌<◌, ◌≤◌, Bool, true, false, ◌&&◌, List, [], ◌∷◌, ◌++◌, length, nat_le, nat_lt}
use Rattle.code.specs.declared.ops.Op.{Op}
use Rattle.code.specs.declared.ops.Op.TheVariants.{Unit as UnitOp, Bool as BoolOp, StoreLocal, LoadNamed, AssignNamed, AssignLocal, DeclareLocal, Pop, Jump, JumpIfTrue, JumpIfFalse, Rotate, UnwindTo, Tick, Checkpoint, EvalAst, PushHandler, PopHandler, IterInit, IterNext, IterDrop, StoreShared, Throw, Return, EvalExpr, Foreign}
use Rattle.code.specs.declared.ops.Instr.{Instr}
use Rattle.code.specs.declared.ops.Row.{Row}
use Rattle.code.specs.declared.talk.Question.{Question}
use Rattle.code.specs.declared.talk.Purpose.{Purpose}
use Rattle.meaning.specs.Machine.{Locals, Mach}
use Rattle.meaning.specs.Throws.{catches}
use Rattle.meaning.specs.Calls.{State, State.ready, State.waits, State.ended, State.halted, instr_at, landed}
use Rattle.meaning.specs.Reading.{Around, World, st, Got, Got.got, Got.bad, Got.dry, Reading, reading}
use Rattle.meaning.specs.Fed.{Tables, in_words, find_slot, poke_slot, Conf, conf, Comes}

-- For one script's expressions and name table: the known expressions, each with its reading and its segment, whose
-- targets count from its start; the longest segment, and the highest rise of the values while a segment plays.
pub record Writer : Type 0 where
  pub known : ℕ → Bool
  pub reading : ℕ → Reading
  pub segment : ℕ → List Instr
  pub longest : ℕ
  pub rise : ℕ

-- ## Segments

-- Operations with their targets moved on by so many places.
abbrev pub shift_op : ℕ → Op → Op
shift_op d UnitOp = UnitOp
shift_op d (BoolOp b) = BoolOp b
shift_op d (StoreLocal i k) = StoreLocal i k
shift_op d (LoadNamed x) = LoadNamed x
shift_op d (AssignNamed x o) = AssignNamed x o
shift_op d (AssignLocal i x o) = AssignLocal i x o
shift_op d (DeclareLocal x k g) = DeclareLocal x k g
shift_op d Pop = Pop
shift_op d (Jump t) = Jump (d + t)
shift_op d (JumpIfTrue t) = JumpIfTrue (d + t)
shift_op d (JumpIfFalse t) = JumpIfFalse (d + t)
shift_op d (Rotate n) = Rotate n
shift_op d (UnwindTo n) = UnwindTo n
shift_op d Tick = Tick
shift_op d Checkpoint = Checkpoint
shift_op d (EvalAst r w) = EvalAst r w
shift_op d (PushHandler t x) = PushHandler (d + t) x
shift_op d PopHandler = PopHandler
shift_op d IterInit = IterInit
shift_op d (IterNext t c) = IterNext (d + t) c
shift_op d IterDrop = IterDrop
shift_op d (StoreShared i) = StoreShared i
shift_op d Throw = Throw
shift_op d Return = Return
shift_op d (EvalExpr e) = EvalExpr e
shift_op d (Foreign n) = Foreign n

abbrev pub shift : ℕ → Instr → Instr
shift d x = record { op = shift_op d x.op; at = x.at }

-- The operations of a segment that starts at place `from` stand in the code from place a on.
abbrev pub Holds : List Instr → ℕ → ℕ → List Instr → Type 0
Holds code from a [] = Unit {0}
Holds code from a (x ∷ xs) = (instr_at code a ≡ shift from x) × Holds code from (suc a) xs

-- The operations that a segment may use: targets at most its length, names of the table, expressions that are records.
abbrev pub is_plain : ℕ → ℕ → ℕ → Op → Bool
is_plain names exprs len UnitOp = true
is_plain names exprs len (BoolOp b) = true
is_plain names exprs len (StoreLocal i k) = false
is_plain names exprs len (LoadNamed x) = nat_lt x names
is_plain names exprs len (AssignNamed x o) = false
is_plain names exprs len (AssignLocal i x o) = false
is_plain names exprs len (DeclareLocal x k g) = false
is_plain names exprs len Pop = true
is_plain names exprs len (Jump t) = nat_le t len
is_plain names exprs len (JumpIfTrue t) = nat_le t len
is_plain names exprs len (JumpIfFalse t) = nat_le t len
is_plain names exprs len (Rotate n) = false
is_plain names exprs len (UnwindTo n) = false
is_plain names exprs len Tick = false
is_plain names exprs len Checkpoint = false
is_plain names exprs len (EvalAst r w) = false
is_plain names exprs len (PushHandler t x) = false
is_plain names exprs len PopHandler = false
is_plain names exprs len IterInit = false
is_plain names exprs len (IterNext t c) = false
is_plain names exprs len IterDrop = false
is_plain names exprs len (StoreShared i) = false
is_plain names exprs len Throw = false
is_plain names exprs len Return = false
is_plain names exprs len (EvalExpr e) = nat_lt 0 e && nat_lt e exprs
is_plain names exprs len (Foreign n) = false

abbrev pub all_plain : ℕ → ℕ → ℕ → List Instr → Bool
all_plain names exprs len [] = true
all_plain names exprs len (x ∷ xs) = is_plain names exprs len x.op && all_plain names exprs len xs

-- ## Playing a segment

-- The machine with so many values more and other slots.
abbrev pub risen : List ℕ → Locals → Mach → Mach
risen vs l m = record { values = vs ++ m.values; iters = m.iters; handlers = m.handlers; slots = l }

-- While a segment from a up to before b plays: at a place of its own, never above the rise.
abbrev pub Inside : ℕ → ℕ → ℕ → State → Type 0
Inside a b high (ready i m) = (a ≤ i) × (i < b) × (length m.values ≤ high)
Inside a b high (waits q u i m) = (a ≤ i) × (i < b) × (length m.values ≤ high)
Inside a b high (ended e) = ⊥
Inside a b high halted = ⊥

-- What the player comes to where the reading comes to a value, a fault or a question: just after the segment with
-- exactly that value on top; at that fault's throw; at that question. Slots change by puts alone.
abbrev pub Settles : Tables → ℕ → ℕ → ℕ → Mach → Got Locals → Conf → Type 0
Settles T a b rise m (got v σ) c = c ≡ conf (ready b (risen (v ∷ []) σ.env m)) σ.world
Settles T a b rise m (bad h p σ) c = (vs : List ℕ) × (length vs ≤ rise) × (c ≡ conf (landed (catches h p (risen vs σ.env m))) σ.world)
Settles T a b rise m (dry q A σ) c =
    (k : Question) × (u : Purpose) × (i : ℕ) × (vs : List ℕ) × (in_words T k ≡ q) × (a ≤ i) × (i < b) × (length vs ≤ rise)
    × (c ≡ conf (waits k u i (risen vs σ.env m)) σ.world)

-- Played from any state with room for its rise, under any answers and puts, a segment that stands anywhere in any
-- code asks what its reading asks and gives its value or throws its fault.
abbrev pub Plays : Tables → ℕ → Reading → List Instr → Type 0
Plays T rise r seg =
    (code : List Instr) (rows : List Row) (a : ℕ) (m : Mach) (w : World) (A : Around) → Holds code a a seg → length m.values + rise ≤ 64
    → Comes code rows T (λ c. Inside a (a + length seg) (length m.values + rise) c.state) (Settles T a (a + length seg) rise m (reading (find_slot T) (poke_slot T) r A (st m.slots w))) (conf (ready a m) w)

-- The writers' law, for a name table and so many expression records.
pub record Lawful (T : Tables) (exprs : ℕ) (W : Writer) : Type 0 where
  pub short : W.longest ≤ 64
  pub low : W.rise ≤ 16
  pub within : (e : ℕ) → W.known e ≡ true → length (W.segment e) ≤ W.longest
  pub plain : (e : ℕ) → W.known e ≡ true → all_plain (length T.names) exprs (length (W.segment e)) (W.segment e) ≡ true
  pub plays : (e : ℕ) → W.known e ≡ true → Plays T W.rise (W.reading e) (W.segment e)
