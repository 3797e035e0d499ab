-- When a call is declined and why, and what the count of a run says.
use Rattle.std.specs.Prelude.{◌≡◌, ℕ, zero, suc, ◌≤◌, Bool, true, false, cond, not, ◌||◌, List, [], Some, None, Option, nat_le, nat_lt}
use Rattle.code.specs.declared.ops.Instr.{Instr}
use Rattle.code.specs.declared.ops.Row.{Row}
use Rattle.code.specs.declared.talk.Slot.{Slot}
use Rattle.code.specs.declared.talk.Answer.{Answer}
use Rattle.code.specs.declared.talk.Answer.TheVariants.{Value, Done, Fault}
use Rattle.code.specs.declared.talk.Question.{Question}
use Rattle.code.specs.declared.talk.Question.TheVariants.{Expression, Statement, Name, Combine, Assign, Iterate, Next}
use Rattle.meaning.specs.Machine.{Mach, takes}
use Rattle.meaning.specs.Calls.{State, State.ready, State.waits, State.ended, State.halted, step, lookup, Call, Call.run, Call.answer, Call.look, Call.put, Reply, Reply.spent, Reply.asks, Reply.ends, Reply.sticks, Reply.taken, Reply.over, Reply.jammed, Reply.found, Reply.declined, does}

-- ## What a call finds

-- Does a question wait?
abbrev pub asking : State → Bool
asking (ready i m) = false
asking (waits q u i m) = true
asking (ended e) = false
asking halted = false

-- The live slots, the oldest first; none once the script has ended or is stuck.
abbrev pub live_in : State → List Slot
live_in (ready i m) = m.slots.live
live_in (waits q u i m) = m.slots.live
live_in (ended e) = []
live_in halted = []

-- A name not live, or constant.
abbrev pub locked : Option Slot → Bool
locked None = true
locked (Some s) = s.constant

-- ## When a number applies

-- 31: run, a question waits.
abbrev pub says31 : Call → State → Bool
says31 (run n) s = asking s
says31 (answer a) s = false
says31 (look x) s = false
says31 (put x h) s = false

-- 32: answer or put, none waits.
abbrev pub says32 : Call → State → Bool
says32 (run n) s = false
says32 (answer a) s = not (asking s)
says32 (look x) s = false
says32 (put x h) s = not (asking s)

-- 33: ended or stuck, for every call.
abbrev pub says33 : State → Bool
says33 (ready i m) = false
says33 (waits q u i m) = false
says33 (ended e) = true
says33 halted = true

-- An answer that the question that waits does not take.
abbrev pub wrong_kind : Answer → State → Bool
wrong_kind a (ready i m) = false
wrong_kind a (waits q u i m) = not (takes u a)
wrong_kind a (ended e) = false
wrong_kind a halted = false

-- 34: a wrong kind of answer, a run limit outside 1 to 1,000,000, or a name number outside the table.
abbrev pub says34 : ℕ → Call → State → Bool
says34 names (run n) s = nat_lt n 1 || nat_lt 1000000 n
says34 names (answer a) s = wrong_kind a s
says34 names (look x) s = nat_le names x
says34 names (put x h) s = nat_le names x

-- 35: put to a name not live or constant.
abbrev pub says35 : Call → State → Bool
says35 (run n) s = false
says35 (answer a) s = false
says35 (look x) s = false
says35 (put x h) s = locked (lookup x (live_in s))

-- The first that applies: 33, then the lower number. The table has so many names.
abbrev pub why : ℕ → Call → State → Option ℕ
why names c s =
    cond (says33 s) (Some 33)
    (cond (says31 c s) (Some 31)
    (cond (says32 c s) (Some 32)
    (cond (says34 names c s) (Some 34)
    (cond (says35 c s) (Some 35) None))))

-- A call is declined exactly where a number applies, with that number, and then nothing changes.
pub record Declining (code : List Instr) (rows : List Row) (names : ℕ) (c : Call) (s : State) : Type 0 where
  pub only : (k : ℕ) → (does code rows names c s).reply ≡ declined k → why names c s ≡ Some k
  pub always : (k : ℕ) → why names c s ≡ Some k → (does code rows names c s).reply ≡ declined k
  pub unchanged : (k : ℕ) → why names c s ≡ Some k → (does code rows names c s).left ≡ s

-- ## Questions and answers

-- What a question takes: a value for 1 to 4, 6 and 7, done for 5 and 7, a fault for all.
abbrev pub suits : Question → Answer → Bool
suits q (Fault h p) = true
suits (Expression e) (Value h) = true
suits (Statement i) (Value h) = true
suits (Name x) (Value h) = true
suits (Combine r old new) (Value h) = true
suits (Assign x r new) (Value h) = false
suits (Iterate h) (Value v) = true
suits (Next i) (Value h) = true
suits (Expression e) Done = false
suits (Statement i) Done = false
suits (Name x) Done = false
suits (Combine r old new) Done = false
suits (Assign x r new) Done = true
suits (Iterate h) Done = false
suits (Next i) Done = true

-- What the player takes while a question waits is what that question takes.
abbrev pub Suited : State → Type 0
Suited (ready i m) = Unit {0}
Suited (waits q u i m) = (a : Answer) → takes u a ≡ suits q a
Suited (ended e) = Unit {0}
Suited halted = Unit {0}

-- ## The count of a run

-- So many steps lead from one state to another.
abbrev pub Steps : List Instr → List Row → ℕ → State → State → Type 0
Steps code rows zero s t = s ≡ t
Steps code rows (suc k) s t = (i : ℕ) × (m : Mach) × (s ≡ ready i m) × Steps code rows k (step code rows i m) t

-- No question, no end.
abbrev pub GoesOn : State → Type 0
GoesOn (ready i m) = Unit {0}
GoesOn (waits q u i m) = ⊥
GoesOn (ended e) = ⊥
GoesOn halted = ⊥

abbrev pub WaitsWith : Question → State → Type 0
WaitsWith q (ready i m) = ⊥
WaitsWith q (waits k u i m) = q ≡ k
WaitsWith q (ended e) = ⊥
WaitsWith q halted = ⊥

-- What a run with a limit says, from one state to another: its count is the number of its steps. "Spent" is the whole
-- limit, and every other count is from 1 up to it. A run says nothing that another call says.
abbrev pub CountRight : List Instr → List Row → ℕ → State → Reply → State → Type 0
CountRight code rows n s (spent k) t = (k ≡ n) × Steps code rows k s t × GoesOn t
CountRight code rows n s (asks k q) t = (1 ≤ k) × (k ≤ n) × Steps code rows k s t × WaitsWith q t
CountRight code rows n s (ends k e) t = (1 ≤ k) × (k ≤ n) × Steps code rows k s t × (t ≡ ended e)
CountRight code rows n s (sticks k) t = (1 ≤ k) × (k ≤ n) × Steps code rows k s t × (t ≡ halted)
CountRight code rows n s taken t = ⊥
CountRight code rows n s (over e) t = ⊥
CountRight code rows n s jammed t = ⊥
CountRight code rows n s (found o) t = ⊥
CountRight code rows n s (declined k) t = s ≡ t
