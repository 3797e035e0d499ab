-- The player fed as the tree is: the same answers and puts, taken as soon as a question waits.
use Rattle.std.specs.Prelude.{◌≡◌, ℕ, zero, suc, Bool, true, false, cond, List, [], ◌∷◌, Some, None, Option, slice_index_or}
use Rattle.code.specs.declared.ops.Instr.{Instr}
use Rattle.code.specs.declared.ops.Row.{Row}
use Rattle.code.specs.declared.talk.Slot.{Slot}
use Rattle.code.specs.declared.talk.Answer.{Answer}
use Rattle.code.specs.declared.talk.Answer.TheVariants.{Value, Done, Fault}
use Rattle.code.specs.declared.talk.Purpose.{Purpose}
use Rattle.code.specs.declared.talk.Question.{Question}
use Rattle.code.specs.declared.talk.Question.TheVariants.{Expression, Statement, Name, Combine, Assign, Iterate, Next}
use Rattle.meaning.specs.Reading.{Bytes, same_bytes, Sign, Ask, Ask.expression, Ask.statement, Ask.name, Ask.combine, Ask.assign, Ask.iterate, Ask.next, Event, Event.value, Event.done, Event.fault, Event.put, Cell, World}
use Rattle.meaning.specs.Machine.{Locals, Mach, with_slots, takes, resume}
use Rattle.meaning.specs.Calls.{State, State.ready, State.waits, State.ended, State.halted, after, step, lookup, overwritten}

-- ## Numbers and what they stand for

-- The name table and the operator rows of compiled code, by what they mean.
pub record Tables : Type 0 where
  pub names : List Bytes
  pub signs : List Sign

abbrev pub no_sign : Sign
no_sign = record { token₁ = 0; bytes₁ = []; token₂ = 0; bytes₂ = [] }

abbrev pub name_at : Tables → ℕ → Bytes
name_at T x = slice_index_or T.names x []

abbrev pub sign_at : Tables → ℕ → Sign
sign_at T r = slice_index_or T.signs r no_sign

-- The number of a name: its first place in the table.
abbrev pub place_from : Bytes → ℕ → List Bytes → Option ℕ
place_from b i [] = None
place_from b i (n ∷ ns) = cond (same_bytes n b) (Some i) (place_from b (suc i) ns)

abbrev pub number_of : Tables → Bytes → Option ℕ
number_of T b = place_from b 0 T.names

abbrev pub sign_of_row : Tables → Option ℕ → Option Sign
sign_of_row T None = None
sign_of_row T (Some r) = Some (sign_at T r)

-- A question of the player in the tree's words: names by their bytes, operators by tokens and names.
abbrev pub in_words : Tables → Question → Ask
in_words T (Expression e) = expression e
in_words T (Statement i) = statement i
in_words T (Name x) = name (name_at T x)
in_words T (Combine r old new) = combine (sign_at T r) old new
in_words T (Assign x r new) = assign (name_at T x) (sign_of_row T r) new
in_words T (Iterate h) = iterate h
in_words T (Next i) = next i

-- ## The player's variables by names

abbrev pub cell_of : Option Slot → Option Cell
cell_of None = None
cell_of (Some s) = Some (record { handle = s.handle; constant = s.constant })

abbrev pub cell_at : Option ℕ → Locals → Option Cell
cell_at None l = None
cell_at (Some x) l = cell_of (lookup x l.live)

-- What a name has in the slots.
abbrev pub find_slot : Tables → Bytes → Locals → Option Cell
find_slot T b l = cell_at (number_of T b) l

abbrev pub or_same : Option Locals → Locals → Locals
or_same None l = l
or_same (Some k) l = k

abbrev pub poke_at : Option ℕ → ℕ → Locals → Locals
poke_at None h l = l
poke_at (Some x) h l = or_same (overwritten x h l) l

-- A put by name: the newest slot, unless it is constant or there is none.
abbrev pub poke_slot : Tables → Bytes → ℕ → Locals → Locals
poke_slot T b h l = poke_at (number_of T b) h l

-- ## Moves

-- The player, with what is still to be fed and the questions asked so far.
pub record Conf : Type 0 where
  pub state : State
  pub world : World

abbrev pub conf : State → World → Conf
conf s w = record { state = s; world = w }

-- A question that now waits is noted.
abbrev pub noted : Tables → State → World → World
noted T (ready i m) w = w
noted T (waits q u i m) w = record { feed = w.feed; asked = in_words T q ∷ w.asked }
noted T (ended e) w = w
noted T halted w = w

abbrev pub fed_by : List Event → World → World
fed_by f w = record { feed = f; asked = w.asked }

-- An answer that suits the question is taken; any other is passed over.
abbrev pub answered_by : Bool → Answer → Question → Purpose → ℕ → Mach → World → Conf
answered_by true a q u i m w = conf (after (resume u a m) i) w
answered_by false a q u i m w = conf (waits q u i m) w

abbrev pub hearing : Tables → List Event → Question → Purpose → ℕ → Mach → World → Option Conf
hearing T [] q u i m w = None
hearing T (value h ∷ f) q u i m w = Some (answered_by (takes u (Value h)) (Value h) q u i m (fed_by f w))
hearing T (done ∷ f) q u i m w = Some (answered_by (takes u Done) Done q u i m (fed_by f w))
hearing T (fault h p ∷ f) q u i m w = Some (answered_by true (Fault h p) q u i m (fed_by f w))
hearing T (put b h ∷ f) q u i m w = Some (conf (waits q u i (with_slots (poke_slot T b h m.slots) m)) (fed_by f w))

-- One move: a step where it is ready, what is fed where a question waits; none at an end, or with nothing left to feed.
abbrev pub move_from : List Instr → List Row → Tables → State → World → Option Conf
move_from code rows T (ready i m) w = Some (conf (step code rows i m) (noted T (step code rows i m) w))
move_from code rows T (waits q u i m) w = hearing T w.feed q u i m w
move_from code rows T (ended e) w = None
move_from code rows T halted w = None

abbrev pub move : List Instr → List Row → Tables → Conf → Option Conf
move code rows T c = move_from code rows T c.state c.world

-- By moves from states of I, c comes to a state of Q.
pub data Comes (code : List Instr) (rows : List Row) (T : Tables) (I Q : Conf → Type 0) : Conf → Type 0 where
  here : {c : Conf} → Q c → Comes code rows T I Q c
  then : {c d : Conf} → I c → move code rows T c ≡ Some d → Comes code rows T I Q d → Comes code rows T I Q c

-- From c there are n moves, each from a state of I.
abbrev pub Goes : List Instr → List Row → Tables → (Conf → Type 0) → ℕ → Conf → Type 0
Goes code rows T I zero c = Unit {0}
Goes code rows T I (suc n) c = (d : Conf) × I c × (move code rows T c ≡ Some d) × Goes code rows T I n d
