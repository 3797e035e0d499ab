-- A player as the machine that the rules speak of, and what an operation does to it.
use Rattle.std.specs.Prelude.{◌≡◌, ℕ, ◌<◌, ◌≤◌, List, length, take, Some, None, Option, Ok, Err, Result}
use Rattle.code.specs.declared.talk.Slot.{Slot}
use Rattle.stack64.specs.Listed.{listed}
use Rattle.meaning.specs.Machine.{Locals, Mach, Effect, Effect.next, Effect.goto, Effect.ask, Effect.fault, Effect.give, Effect.stuck, add, slot_at}
use Rattle.player.specs.declared.kinds.Flow.{Flow}
use Rattle.player.specs.declared.kinds.Flow.TheVariants.{Next, Goto, Ask, Fault, Give}
use Rattle.player.specs.declared.kinds.Stuck.{Stuck}
use Rattle.records.specs.declared.refusals.Refusal.{Refusal}
use Rattle.records.specs.declared.refusals.Refusal.TheVariants.{NotSettable}
use Rattle.player.specs.declared.machine.Player.{Player}

-- The first n slots of the caller's memory are live.
unfoldable pub held : ℕ → List Slot → Locals
held n xs = record { room = length xs; live = take n xs }

abbrev pub locals : Player → Locals
locals p = held p.live p.slots.now

abbrev pub mach : Player → Mach
mach p = record { values = listed p.values; iters = listed p.iters; handlers = listed p.handlers; slots = locals p }

-- What a flow stands for, with the machine that it leaves; an error is a player that is stuck.
abbrev pub effect : Result Flow Stuck → Mach → Effect
effect (Ok Next) m = next m
effect (Ok (Goto t)) m = goto t m
effect (Ok (Ask q u)) m = ask q u m
effect (Ok (Fault h p)) m = fault h p m
effect (Ok (Give h)) m = give h
effect (Err e) m = stuck

-- What no call changes: code, rows and names, and where the slot memory lies.
pub record Kept (a b : Player) : Type 0 where
  pub lent : b.slots.ghost_name ≡ a.slots.ghost_name
  pub code : b.code ≡ a.code
  pub rows : b.rows ≡ a.rows
  pub names : b.names ≡ a.names

-- What no operation changes: that, and place and mode.
pub record Same (a b : Player) : Type 0 where
  pub kept : Kept a b
  pub place : b.place ≡ a.place
  pub mode : b.mode ≡ a.mode

-- Only the slots are changed.
pub record Slotted (a b : Player) (l : Locals) : Type 0 where
  pub same : Same a b
  pub values : listed b.values ≡ listed a.values
  pub iters : listed b.iters ≡ listed a.iters
  pub handlers : listed b.handlers ≡ listed a.handlers
  pub slots : locals b ≡ l

-- One slot more, if there is room; else nothing is changed.
abbrev pub Declared : Player → Slot → Result (Unit {0}) Stuck → Player → Type 0
Declared a s (Ok u) b = (length (locals a).live < (locals a).room) × Slotted a b (add s (locals a))
Declared a s (Err e) b = ((locals a).room ≤ length (locals a).live) × Same a b

-- The slots as told, if they may be so; else nothing is changed.
abbrev pub Wrote : Option Locals → Player → Result (Unit {0}) Refusal → Player → Type 0
Wrote o a (Ok u) b = (l : Locals) × (o ≡ Some l) × Slotted a b l
Wrote o a (Err e) b = (e ≡ NotSettable) × (o ≡ None) × Slotted a b (locals a)

-- The slot at a place, if there is one.
abbrev pub Got : ℕ → List Slot → Option Slot → Type 0
Got i ss (Some s) = (i < length ss) × (slot_at i ss ≡ Some s)
Got i ss None = slot_at i ss ≡ None

-- A method's flow and what it leaves are the effect that the rules give.
pub record Does (a : Player) (r : Result Flow Stuck) (b : Player) (e : Mach → Effect) : Type 0 where
  pub same : Same a b
  pub did : effect r (mach b) ≡ e (mach a)
