-- What lowering keeps as the state that the rules speak of, and what it is to do what a rule says.
use Rattle.std.specs.Prelude.{◌≡◌, ℕ, ◌+◌, reverse, Ok, Err, Result, slice_index_or}
use Rattle.std.specs.Borrow.{MutBor}
use Rattle.records.specs.declared.types.Script.{Script}
use Rattle.records.specs.declared.refusals.Refusal.{Refusal}
use Rattle.code.specs.declared.ops.Row.{Row}
use Rattle.code.specs.declared.ops.Instr.{Instr}
use Rattle.code.specs.declared.ops.AssignOp.{AssignOp}
use Rattle.code.specs.declared.shapes.Loop.{Loop}
use Rattle.meaning.specs.LowerState.{Low, Level, Pile, Out, Out.ok, Out.no, M, no_loop, with_names, with_opers}
use Rattle.stack64.specs.declared.stack.Stack64.{Stack64}
use Rattle.stack64.specs.Listed.{listed}
use Rattle.tables.specs.declared.stack.Stack.{Stack}
use Rattle.tables.specs.Stacks.{SameLent, contents}
use Rattle.lowering.specs.Fit.{most, most_slots, placed}
use Rattle.lowering.specs.declared.state.Lowering.{Lowering}
use Rattle.lowering.specs.declared.state.Level.{Level as LevelRecord}

-- ## The state

abbrev pub level_of : LevelRecord → Level
level_of l = record { level = l.level; base = l.base }

unfoldable pub low : Lowering → Low
low c =
    record { code = contents most c.code.now; rows = contents most c.rows.now; names = contents most c.names.now; opers = contents most c.operators.now; slots = contents most_slots c.slots.now; breaks = contents most c.breaks.now; loops = reverse (listed c.loops); iters = c.iters; handlers = c.handlers; block = level_of c.block; limit = c.limit; deepest = c.deepest }

-- ## A rule was followed

abbrev pub outcome : {X : Type 0} → Result X Refusal → Low → Out X
outcome (Ok x) s = ok x s
outcome (Err e) s = no e

-- What a rule gives on the state before is the answer with the state after.
abbrev pub Did : {X : Type 0} → M X → Lowering → Result X Refusal → Lowering → Type 0
Did m a r b = m (low a) ≡ outcome r (low b)

-- What a rule gives whatever the rest of the state is: one that only looks at the slots; one that adds to the names
-- alone, or to the operator rows alone.
abbrev pub Saw : {X : Type 0} → M X → Pile ℕ → Result X Refusal → Type 0
Saw m p r = (s : Low) → s.slots ≡ p → m s ≡ outcome r s

abbrev pub AddedName : {X : Type 0} → M X → Pile ℕ → Result X Refusal → Pile ℕ → Type 0
AddedName m p r q = (s : Low) → s.names ≡ p → m s ≡ outcome r (with_names q s)

abbrev pub AddedOper : {X : Type 0} → M X → Pile AssignOp → Result X Refusal → Pile AssignOp → Type 0
AddedOper m p r q = (s : Low) → s.opers ≡ p → m s ≡ outcome r (with_opers q s)

-- ## What stays

-- The records are the same, and each memory is still the one that was lent.
abbrev pub Lent : Lowering → Lowering → Type 0
Lent a b =
    (b.script ≡ a.script)
    × (b.code.ghost_name ≡ a.code.ghost_name) × (SameLent most a.code.now b.code.now)
    × (b.rows.ghost_name ≡ a.rows.ghost_name) × (SameLent most a.rows.now b.rows.now)
    × (b.names.ghost_name ≡ a.names.ghost_name) × (SameLent most a.names.now b.names.now)
    × (b.operators.ghost_name ≡ a.operators.ghost_name) × (SameLent most a.operators.now b.operators.now)
    × (b.slots.ghost_name ≡ a.slots.ghost_name) × (SameLent most_slots a.slots.now b.slots.now)
    × (b.breaks.ghost_name ≡ a.breaks.ghost_name) × (SameLent most a.breaks.now b.breaks.now)

-- All that is kept, apart from the facts about it: what a step leaves alone is told by the parts that it may change.
pub record Parts : Type 0 where
  pub script : Script
  pub code : MutBor (Stack Instr most)
  pub rows : MutBor (Stack Row most)
  pub names : MutBor (Stack ℕ most)
  pub operators : MutBor (Stack AssignOp most)
  pub slots : MutBor (Stack ℕ most_slots)
  pub breaks : MutBor (Stack ℕ most)
  pub loops : Stack64 Loop
  pub block : LevelRecord
  pub iters : ℕ
  pub handlers : ℕ
  pub limit : ℕ
  pub deepest : ℕ

abbrev pub parts : Lowering → Parts
parts c = record { script = c.script; code = c.code; rows = c.rows; names = c.names; operators = c.operators; slots = c.slots; breaks = c.breaks; loops = c.loops; block = c.block; iters = c.iters; handlers = c.handlers; limit = c.limit; deepest = c.deepest }

-- How many places the breaks of the innermost loop have.
abbrev pub last_breaks : Lowering → ℕ
last_breaks c = (slice_index_or (listed c.loops) 0 no_loop).breaks

-- One operation more: counters stay.
abbrev pub Grew : {X : Type 0} → Lowering → Result X Refusal → Lowering → Type 0
Grew a (Ok x) b = (placed b.code.now ≡ placed a.code.now + 1) × (b.iters ≡ a.iters) × (b.handlers ≡ a.handlers) × (last_breaks b ≡ last_breaks a)
Grew a (Err e) b = Unit {0}

-- Counters stay.
abbrev pub Steady : Lowering → Lowering → Type 0
Steady a b = (placed b.code.now ≡ placed a.code.now) × (b.iters ≡ a.iters) × (b.handlers ≡ a.handlers)
