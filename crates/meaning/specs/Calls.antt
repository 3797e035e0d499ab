-- The player's calls: run, answer, look and put, from load to close, with every reply and every number.
use Rattle.std.specs.Prelude.{ℕ, zero, suc, Bool, false, cond, List, [], ◌∷◌, Some, None, Option, nat_le, nat_lt, slice_index_or}
use Rattle.records.specs.Tree.{nowhere}
use Rattle.code.specs.declared.ops.Op.TheVariants.{Foreign}
use Rattle.code.specs.declared.ops.Instr.{Instr}
use Rattle.code.specs.declared.ops.Row.{Row}
use Rattle.code.specs.declared.talk.Slot.{Slot}
use Rattle.code.specs.declared.talk.Question.{Question}
use Rattle.code.specs.declared.talk.Purpose.{Purpose}
use Rattle.code.specs.declared.talk.Answer.{Answer}
use Rattle.code.specs.declared.talk.End.{End}
use Rattle.code.specs.declared.talk.End.TheVariants.{Value as Gives, Fault as Faults}
use Rattle.meaning.specs.Machine.{Locals, Mach, Effect, Effect.next, Effect.goto, Effect.ask, Effect.fault, Effect.give, Effect.stuck, slot_at, newest, put as put_slot, with_slots, exec, takes, resume}
use Rattle.meaning.specs.Throws.{catches}

-- ## State

-- Ready at a place; waiting with a question, at the place that asked it; ended; or stuck.
pub data State : Type 0 where
  ready : ℕ → Mach → State
  waits : Question → Purpose → ℕ → Mach → State
  ended : End → State
  halted : State

-- What stands past the end of the code: nothing that the player knows.
abbrev pub no_instr : Instr
no_instr = record { op = Foreign 255; at = nowhere }

abbrev pub instr_at : List Instr → ℕ → Instr
instr_at code i = slice_index_or code i no_instr

-- Where a throw leads.
abbrev pub landed : Effect → State
landed (next m) = halted
landed (goto t m) = ready t m
landed (ask q u m) = halted
landed (fault h p m) = ended (Faults h p)
landed (give h) = halted
landed stuck = halted

-- Where an operation at place i leads.
abbrev pub after : Effect → ℕ → State
after (next m) i = ready (suc i) m
after (goto t m) i = ready t m
after (ask q u m) i = waits q u i m
after (fault h p m) i = landed (catches h p m)
after (give h) i = ended (Gives h)
after stuck i = halted

-- One step: the operation at a place.
abbrev pub step : List Instr → List Row → ℕ → Mach → State
step code rows i m = let x = instr_at code i in after (exec rows x.op x.at m) i

-- ## Load

-- The player starts at operation 0, all heights 0.
abbrev pub empty : ℕ → Mach
empty room = record { values = []; iters = []; handlers = []; slots = record { room = room; live = [] } }

abbrev pub loaded : ℕ → State
loaded room = ready 0 (empty room)

-- `fits`: the slot memory holds the deepest slot count, or 24.
abbrev pub fits : ℕ → ℕ → Option ℕ
fits room deepest = cond (nat_le deepest room) None (Some 24)

-- ## Calls

pub data Call : Type 0 where
  -- at most so many steps
  run : ℕ → Call
  answer : Answer → Call
  -- a name by its number
  look : ℕ → Call
  -- a name by its number, a handle
  put : ℕ → ℕ → Call

pub data Reply : Type 0 where
  -- so many steps, none of which asked or ended
  spent : ℕ → Reply
  -- the last of so many steps asked
  asks : ℕ → Question → Reply
  -- the last of so many steps ended the script
  ends : ℕ → End → Reply
  -- the last of so many steps is stuck
  sticks : ℕ → Reply
  -- an answer or a put was taken
  taken : Reply
  -- an answer was taken, a fault that no handler catches: the script ended
  over : End → Reply
  -- an answer was taken, and the player is stuck
  jammed : Reply
  -- what a look found
  found : Option ℕ → Reply
  -- nothing was done, by the number why
  declined : ℕ → Reply

-- A reply, and the state that the call leaves.
pub record Told : Type 0 where
  pub reply : Reply
  pub left : State

abbrev pub told : Reply → State → Told
told r s = record { reply = r; left = s }

-- A call that is declined changes nothing.
abbrev pub declines : ℕ → State → Told
declines n s = told (declined n) s

-- ### run

abbrev pub goes : (ℕ → Mach → Told) → ℕ → State → Told
goes f n (ready i m) = f i m
goes f n (waits q u i m) = told (asks n q) (waits q u i m)
goes f n (ended e) = told (ends n e) (ended e)
goes f n halted = told (sticks n) halted

-- At most k steps more, after n.
unfoldable pub plays : List Instr → List Row → ℕ → ℕ → ℕ → Mach → Told
plays code rows zero n i m = told (spent n) (ready i m)
plays code rows (suc k) n i m = goes (plays code rows k (suc n)) (suc n) (step code rows i m)

abbrev pub limit_ok : ℕ → Bool
limit_ok n = cond (nat_lt n 1) false (nat_le n 1000000)

abbrev pub runs : List Instr → List Row → ℕ → State → Told
runs code rows limit (ready i m) = cond (limit_ok limit) (plays code rows limit 0 i m) (declines 34 (ready i m))
runs code rows limit (waits q u i m) = declines 31 (waits q u i m)
runs code rows limit (ended e) = declines 33 (ended e)
runs code rows limit halted = declines 33 halted

-- ### answer

-- An answer takes effect at once and costs no step.
abbrev pub answered : State → Told
answered (ready i m) = told taken (ready i m)
answered (waits q u i m) = told taken (waits q u i m)
answered (ended e) = told (over e) (ended e)
answered halted = told jammed halted

abbrev pub answers : Answer → State → Told
answers a (ready i m) = declines 32 (ready i m)
answers a (waits q u i m) = cond (takes u a) (answered (after (resume u a m) i)) (declines 34 (waits q u i m))
answers a (ended e) = declines 33 (ended e)
answers a halted = declines 33 halted

-- ### look

abbrev pub handle_of : Option Slot → Option ℕ
handle_of None = None
handle_of (Some s) = Some s.handle

-- The newest live slot of a name.
abbrev pub slot_of : Option ℕ → List Slot → Option Slot
slot_of None ss = None
slot_of (Some i) ss = slot_at i ss

abbrev pub lookup : ℕ → List Slot → Option Slot
lookup x ss = slot_of (newest x ss) ss

abbrev pub seen : ℕ → ℕ → Mach → State → Told
seen names x m s = cond (nat_lt x names) (told (found (handle_of (lookup x m.slots.live))) s) (declines 34 s)

abbrev pub looks : ℕ → ℕ → State → Told
looks names x (ready i m) = seen names x m (ready i m)
looks names x (waits q u i m) = seen names x m (waits q u i m)
looks names x (ended e) = declines 33 (ended e)
looks names x halted = declines 33 halted

-- ### put

-- The slots with another handle in slot i, if that may be written.
abbrev pub rewritten : ℕ → ℕ → Option Slot → Locals → Option Locals
rewritten i h None l = None
rewritten i h (Some s) l = cond s.constant None (Some (put_slot i (record { name = s.name; handle = h; constant = s.constant }) l))

abbrev pub rewritten_at : Option ℕ → ℕ → Locals → Option Locals
rewritten_at None h l = None
rewritten_at (Some i) h l = rewritten i h (slot_at i l.live) l

-- The newest live slot of a name with another handle, unless it is constant or there is none.
abbrev pub overwritten : ℕ → ℕ → Locals → Option Locals
overwritten x h l = rewritten_at (newest x l.live) h l

abbrev pub putting : Option Locals → Question → Purpose → ℕ → Mach → Told
putting None q u i m = declines 35 (waits q u i m)
putting (Some l) q u i m = told taken (waits q u i (with_slots l m))

abbrev pub puts : ℕ → ℕ → ℕ → State → Told
puts names x h (ready i m) = declines 32 (ready i m)
puts names x h (waits q u i m) = cond (nat_lt x names) (putting (overwritten x h m.slots) q u i m) (declines 34 (waits q u i m))
puts names x h (ended e) = declines 33 (ended e)
puts names x h halted = declines 33 halted

-- ### any call, and lists of calls

abbrev pub does : List Instr → List Row → ℕ → Call → State → Told
does code rows names (run n) s = runs code rows n s
does code rows names (answer a) s = answers a s
does code rows names (look x) s = looks names x s
does code rows names (put x h) s = puts names x h s

-- The state after a list of calls, the first call first.
abbrev pub after_calls : List Instr → List Row → ℕ → List Call → State → State
after_calls code rows names [] s = s
after_calls code rows names (c ∷ cs) s = after_calls code rows names cs (does code rows names c s).left

-- Their replies, in order.
abbrev pub replies : List Instr → List Row → ℕ → List Call → State → List Reply
replies code rows names [] s = []
replies code rows names (c ∷ cs) s = (does code rows names c s).reply ∷ replies code rows names cs (does code rows names c s).left
