-- How much is in use.
use Rattle.std.specs.Prelude.{ℕ, ◌≤◌, List, length, slice_index_or}
use Rattle.code.specs.declared.ops.Instr.{Instr}
use Rattle.code.specs.declared.shapes.Loop.{Loop}
use Rattle.meaning.specs.LowerState.{no_loop}
use Rattle.tables.specs.declared.stack.Stack.{Stack}
use Rattle.tables.specs.Stacks.{contents}

-- The most operations, rows, names, operator rows and break places; the most slots.
abbrev pub most : ℕ
most = 4194304

abbrev pub most_slots : ℕ
most_slots = 65535

-- How many operations there are.
abbrev pub placed : Stack Instr most → ℕ
placed code = length (contents most code).held

-- No loop has more break places than there are operations.
abbrev pub Counted : ℕ → List Loop → Type 0
Counted placed loops = (k : ℕ) → (slice_index_or loops k no_loop).breaks ≤ placed
