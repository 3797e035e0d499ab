-- The agreement: after every list of calls the player is where the tree's run is, fed the same answers and puts.
use Rattle.std.specs.Prelude.{◌≡◌, ℕ, suc, ◌<◌, Bool, true, false, cond, List, [], ◌∷◌, ◌++◌, reverse, length, None, ◌≢◌}
use Rattle.records.specs.Tree.{Block}
use Rattle.code.specs.declared.ops.Instr.{Instr}
use Rattle.code.specs.declared.ops.Row.{Row}
use Rattle.code.specs.declared.talk.Handler.{Handler}
use Rattle.code.specs.declared.talk.Answer.{Answer}
use Rattle.code.specs.declared.talk.Answer.TheVariants.{Value, Done, Fault}
use Rattle.code.specs.declared.talk.End.{End}
use Rattle.code.specs.declared.talk.End.TheVariants.{Value as Gives, Fault as Faults}
use Rattle.meaning.specs.Machine.{Locals, Mach}
use Rattle.meaning.specs.Calls.{State, State.ready, State.waits, State.ended, State.halted, Call, Call.run, Call.answer, Call.look, Call.put, Reply, Reply.spent, Reply.asks, Reply.ends, Reply.sticks, Reply.taken, Reply.over, Reply.jammed, Reply.found, Reply.declined, plays, loaded, after_calls, replies, instr_at}
use Rattle.meaning.specs.Reading.{Ask, Event, Event.value as fed_value, Event.done as fed_done, Event.fault as fed_fault, Event.put as fed_put, Scope, seek}
use Rattle.meaning.specs.Run.{Out, Out.value, Out.broke, Out.continued, Out.returned, Out.fault, Out.waits as idles, Out.spent as endless, run_script}
use Rattle.meaning.specs.Fed.{Tables, name_at, in_words, find_slot}
use Rattle.meaning.specs.SetCode.{expr_of, set_code, place_of}
use Rattle.meaning.specs.Writer.{Writer}

-- ## Heights

-- The heights at which an operation is met.
pub record Heights : Type 0 where
  pub values : ℕ
  pub slots : ℕ
  pub iters : ℕ
  pub handlers : ℕ

abbrev pub heights_of : Mach → Heights
heights_of m = record { values = length m.values; slots = length m.slots.live; iters = length m.iters; handlers = length m.handlers }

-- The armed handlers.
abbrev pub armed : List Handler → ℕ
armed [] = 0
armed (h ∷ hs) = cond h.armed (suc (armed hs)) (armed hs)

-- ## What is fed

-- The tree's run is fed each answer and put that the player accepts, in order.
abbrev pub from_answer : Answer → Event
from_answer (Value h) = fed_value h
from_answer Done = fed_done
from_answer (Fault h p) = fed_fault h p

abbrev pub accepts : Reply → Bool
accepts (spent n) = true
accepts (asks n q) = true
accepts (ends n e) = true
accepts (sticks n) = true
accepts taken = true
accepts (over e) = true
accepts jammed = true
accepts (found o) = true
accepts (declined n) = false

abbrev pub event_of : Tables → Call → List Event
event_of T (run n) = []
event_of T (answer a) = from_answer a ∷ []
event_of T (look x) = []
event_of T (put x h) = fed_put (name_at T x) h ∷ []

abbrev pub fed : Tables → List Call → List Reply → List Event
fed T [] rs = []
fed T (c ∷ cs) [] = []
fed T (c ∷ cs) (r ∷ rs) = cond (accepts r) (event_of T c) [] ++ fed T cs rs

-- The questions that replies show, in order.
abbrev pub asked : Tables → List Reply → List Ask
asked T [] = []
asked T (spent n ∷ rs) = asked T rs
asked T (asks n q ∷ rs) = in_words T q ∷ asked T rs
asked T (ends n e ∷ rs) = asked T rs
asked T (sticks n ∷ rs) = asked T rs
asked T (taken ∷ rs) = asked T rs
asked T (over e ∷ rs) = asked T rs
asked T (jammed ∷ rs) = asked T rs
asked T (found o ∷ rs) = asked T rs
asked T (declined n ∷ rs) = asked T rs

-- ## Where both stop

-- Every name of the table looks up alike, and is constant in both or in neither.
abbrev pub Alike : Tables → List Scope → Locals → Type 0
Alike T ss l = (x : ℕ) → x < length T.names → find_slot T (name_at T x) l ≡ seek (name_at T x) ss

-- Both wait with the same question: the open iterators are those of the `for` loops around, and the armed handlers
-- number the `try` bodies around. Both have ended, with the same value or the same fault and position.
abbrev pub SameEnd : End → Out → Type 0
SameEnd (Gives v) (value w σ) = v ≡ w
SameEnd (Gives v) (broke w σ) = ⊥
SameEnd (Gives v) (continued σ) = ⊥
SameEnd (Gives v) (returned w σ) = v ≡ w
SameEnd (Gives v) (fault h p σ) = ⊥
SameEnd (Gives v) (idles q A σ) = ⊥
SameEnd (Gives v) endless = ⊥
SameEnd (Faults h p) (value w σ) = ⊥
SameEnd (Faults h p) (broke w σ) = ⊥
SameEnd (Faults h p) (continued σ) = ⊥
SameEnd (Faults h p) (returned w σ) = ⊥
SameEnd (Faults h p) (fault k r σ) = (h ≡ k) × (p ≡ r)
SameEnd (Faults h p) (idles q A σ) = ⊥
SameEnd (Faults h p) endless = ⊥

abbrev pub SameWait : Tables → Ask → Mach → Out → Type 0
SameWait T q m (value w σ) = ⊥
SameWait T q m (broke w σ) = ⊥
SameWait T q m (continued σ) = ⊥
SameWait T q m (returned w σ) = ⊥
SameWait T q m (fault h p σ) = ⊥
SameWait T q m (idles k A σ) = (q ≡ k) × Alike T σ.env m.slots × (reverse m.iters ≡ reverse A.iters) × (armed m.handlers ≡ A.tries)
SameWait T q m endless = ⊥

abbrev pub SameStop : Tables → State → Out → Type 0
SameStop T (ready i m) r = ⊥
SameStop T (waits q u i m) r = SameWait T (in_words T q) m r
SameStop T (ended e) r = SameEnd e r
SameStop T halted r = ⊥

-- The questions that the tree's run has asked, in order.
abbrev pub asked_by : Out → List Ask
asked_by (value v σ) = reverse σ.world.asked
asked_by (broke v σ) = reverse σ.world.asked
asked_by (continued σ) = reverse σ.world.asked
asked_by (returned v σ) = reverse σ.world.asked
asked_by (fault h p σ) = reverse σ.world.asked
asked_by (idles q A σ) = reverse σ.world.asked
asked_by endless = []

-- ## After every list of calls

module _ (code : List Instr) (rows : List Row) (T : Tables) where
  -- The tree's run stops there too, having asked the same questions.
  pub record Stopped (tree : ℕ → Out) (questions : List Ask) (s : State) : Type 0 where
    pub rounds : ℕ
    pub stop : SameStop T s (tree rounds)
    pub asked : questions ≡ asked_by (tree rounds)

  -- Where the tree's run waits or has ended, finitely many steps bring the player there; where it goes on for ever,
  -- every run says "spent".
  pub record Underway (tree : ℕ → Out) (questions : List Ask) (i : ℕ) (m : Mach) : Type 0 where
    pub comes : (n : ℕ) → (tree n ≢ endless) → (k : ℕ) × Stopped tree (questions ++ asked T ((plays code rows k 0 i m).reply ∷ [])) (plays code rows k 0 i m).left
    pub ever : ((n : ℕ) → tree n ≡ endless) → (k : ℕ) → (plays code rows k 0 i m).reply ≡ spent k

  -- The player and the tree's run agree; it is never stuck.
  abbrev pub Agrees : (ℕ → Out) → List Ask → State → Type 0
  Agrees tree questions (ready i m) = Underway tree questions i m
  Agrees tree questions (waits q u i m) = Stopped tree questions (waits q u i m)
  Agrees tree questions (ended e) = Stopped tree questions (ended e)
  Agrees tree questions halted = ⊥

-- An operation that works out no expression is met at the one height that it has, whatever led there.
abbrev pub MetAt : Writer → List Row → List Instr → (ℕ → Heights) → State → Type 0
MetAt W rows ops H (ready i m) = (j : ℕ) → j < length ops → expr_of rows (instr_at ops j).op ≡ None → i ≡ place_of W rows ops j → heights_of m ≡ H j
MetAt W rows ops H (waits q u i m) = Unit {0}
MetAt W rows ops H (ended e) = Unit {0}
MetAt W rows ops H halted = Unit {0}

-- For a script's block, its lowered operations, residual rows and tables, a writer and slot memory: after every list
-- of calls, declined ones among them.
pub record Agreement (B : Block) (ops : List Instr) (rows : List Row) (T : Tables) (W : Writer) (room : ℕ) : Type 0 where
  pub heights : ℕ → Heights
  pub agrees :
      (cs : List Call) → let code = set_code W rows ops in let rs = replies code rows (length T.names) cs (loaded room) in
      Agrees code rows T (run_script W.reading B (fed T cs rs)) (asked T rs) (after_calls code rows (length T.names) cs (loaded room))
  pub met : (cs : List Call) → MetAt W rows ops heights (after_calls (set_code W rows ops) rows (length T.names) cs (loaded room))
