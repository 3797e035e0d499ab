-- What lowering keeps while it works, and each thing that it does to it: a result with the state after it, or the
-- first refusal that is met.
use Rattle.std.specs.Prelude.{ℕ, suc, ◌-◌, max, Bool, false, cond, ◌&&◌, List, [], ◌∷◌, ◌++◌, length, take, drop, Some, None, Option, ◌==◌, nat_lt, slice_index_or, slice_set}
use Rattle.records.specs.declared.types.Position.{Position}
use Rattle.records.specs.declared.refusals.Refusal.{Refusal}
use Rattle.records.specs.declared.refusals.Refusal.TheVariants.{TooDeep, SlotsFull, NoRoom}
use Rattle.records.specs.Tree.{Records, name_of, nowhere}
use Rattle.code.specs.declared.ops.Op.{Op}
use Rattle.code.specs.declared.ops.Op.TheVariants.{Unit as UnitOp, Bool as BoolOp, StoreLocal, LoadNamed, AssignNamed, AssignLocal, DeclareLocal, Pop, Jump, JumpIfTrue, JumpIfFalse, Rotate, UnwindTo, Tick, Checkpoint, EvalAst, PushHandler, PopHandler, IterInit, IterNext, IterDrop, StoreShared, Throw, Return, EvalExpr, Foreign}
use Rattle.code.specs.declared.ops.Instr.{Instr}
use Rattle.code.specs.declared.ops.Row.{Row}
use Rattle.code.specs.declared.ops.AssignOp.{AssignOp}
use Rattle.code.specs.declared.shapes.Loop.{Loop}
use Rattle.meaning.specs.Reading.{same_bytes}

-- ## The state

-- What a lent memory holds, the oldest first, and how much it can hold.
pub record Pile (X : Type 0) : Type 0 where
  pub held : List X
  pub room : ℕ

-- The block that is being lowered: its level, 0 for the whole script, and the slots that were live as it began.
pub record Level : Type 0 where
  pub level : ℕ
  pub base : ℕ

pub record Low : Type 0 where
  -- operations with their positions
  pub code : Pile Instr
  -- residual rows
  pub rows : Pile Row
  -- the name table, by labels; operator rows
  pub names : Pile ℕ
  pub opers : Pile AssignOp
  -- the names of the live slots, by labels; the places of breaks' jumps
  pub slots : Pile ℕ
  pub breaks : Pile ℕ
  -- the loops around, the innermost last
  pub loops : List Loop
  -- live iterators, `try` regions around, the block
  pub iters : ℕ
  pub handlers : ℕ
  pub block : Level
  -- the most slots there may be, and the most there were
  pub limit : ℕ
  pub deepest : ℕ

-- A result with the state after it, or a refusal.
pub data Out (X : Type 0) : Type 0 where
  ok : X → Low → Out X
  no : Refusal → Out X

abbrev pub M : Type 0 → Type 0
M X = Low → Out X

abbrev pub ret : {X : Type 0} → X → M X
ret x s = ok x s

abbrev pub fail : {X : Type 0} → Refusal → M X
fail e s = no e

abbrev pub bind : {X Y : Type 0} → M X → (X → M Y) → M Y
bind m k s = elim (m s) [ ok x t ↦ k x t | no e ↦ no e ]

-- ## One part put anew

abbrev pub pushed : {X : Type 0} → X → Pile X → Pile X
pushed x p = record { held = p.held ++ x ∷ []; room = p.room }

abbrev pub holding : {X : Type 0} → List X → Pile X → Pile X
holding xs p = record { held = xs; room = p.room }

abbrev pub has_room : {X : Type 0} → Pile X → Bool
has_room p = nat_lt (length p.held) p.room

abbrev pub with_code : Pile Instr → Low → Low
with_code x s = record { code = x; rows = s.rows; names = s.names; opers = s.opers; slots = s.slots; breaks = s.breaks; loops = s.loops; iters = s.iters; handlers = s.handlers; block = s.block; limit = s.limit; deepest = s.deepest }

abbrev pub with_rows : Pile Row → Low → Low
with_rows x s = record { code = s.code; rows = x; names = s.names; opers = s.opers; slots = s.slots; breaks = s.breaks; loops = s.loops; iters = s.iters; handlers = s.handlers; block = s.block; limit = s.limit; deepest = s.deepest }

abbrev pub with_names : Pile ℕ → Low → Low
with_names x s = record { code = s.code; rows = s.rows; names = x; opers = s.opers; slots = s.slots; breaks = s.breaks; loops = s.loops; iters = s.iters; handlers = s.handlers; block = s.block; limit = s.limit; deepest = s.deepest }

abbrev pub with_opers : Pile AssignOp → Low → Low
with_opers x s = record { code = s.code; rows = s.rows; names = s.names; opers = x; slots = s.slots; breaks = s.breaks; loops = s.loops; iters = s.iters; handlers = s.handlers; block = s.block; limit = s.limit; deepest = s.deepest }

-- The most slots are noted.
abbrev pub with_slots : Pile ℕ → Low → Low
with_slots x s = record { code = s.code; rows = s.rows; names = s.names; opers = s.opers; slots = x; breaks = s.breaks; loops = s.loops; iters = s.iters; handlers = s.handlers; block = s.block; limit = s.limit; deepest = max s.deepest (length x.held) }

abbrev pub with_breaks : Pile ℕ → Low → Low
with_breaks x s = record { code = s.code; rows = s.rows; names = s.names; opers = s.opers; slots = s.slots; breaks = x; loops = s.loops; iters = s.iters; handlers = s.handlers; block = s.block; limit = s.limit; deepest = s.deepest }

abbrev pub with_loops : List Loop → Low → Low
with_loops x s = record { code = s.code; rows = s.rows; names = s.names; opers = s.opers; slots = s.slots; breaks = s.breaks; loops = x; iters = s.iters; handlers = s.handlers; block = s.block; limit = s.limit; deepest = s.deepest }

abbrev pub with_iters : ℕ → Low → Low
with_iters x s = record { code = s.code; rows = s.rows; names = s.names; opers = s.opers; slots = s.slots; breaks = s.breaks; loops = s.loops; iters = x; handlers = s.handlers; block = s.block; limit = s.limit; deepest = s.deepest }

abbrev pub with_handlers : ℕ → Low → Low
with_handlers x s = record { code = s.code; rows = s.rows; names = s.names; opers = s.opers; slots = s.slots; breaks = s.breaks; loops = s.loops; iters = s.iters; handlers = x; block = s.block; limit = s.limit; deepest = s.deepest }

abbrev pub with_block : Level → Low → Low
with_block x s = record { code = s.code; rows = s.rows; names = s.names; opers = s.opers; slots = s.slots; breaks = s.breaks; loops = s.loops; iters = s.iters; handlers = s.handlers; block = x; limit = s.limit; deepest = s.deepest }

-- ## Operations

-- One operation more; its place is answered. No room is 22.
unfoldable pub emit_at : Op → Position → M ℕ
emit_at o p s = cond (has_room s.code) (ok (length s.code.held) (with_code (pushed (record { op = o; at = p }) s.code) s)) (no NoRoom)

abbrev pub emit : Op → M ℕ
emit o = emit_at o nowhere

-- The place of the next operation.
unfoldable pub here : M ℕ
here s = ok (length s.code.held) s

-- A jump with another target; any other operation stays.
abbrev pub aimed : ℕ → Op → Op
aimed t UnitOp = UnitOp
aimed t (BoolOp b) = BoolOp b
aimed t (StoreLocal i k) = StoreLocal i k
aimed t (LoadNamed x) = LoadNamed x
aimed t (AssignNamed x o) = AssignNamed x o
aimed t (AssignLocal i x o) = AssignLocal i x o
aimed t (DeclareLocal x k g) = DeclareLocal x k g
aimed t Pop = Pop
aimed t (Jump u) = Jump t
aimed t (JumpIfTrue u) = JumpIfTrue t
aimed t (JumpIfFalse u) = JumpIfFalse t
aimed t (Rotate n) = Rotate n
aimed t (UnwindTo n) = UnwindTo n
aimed t Tick = Tick
aimed t Checkpoint = Checkpoint
aimed t (EvalAst r w) = EvalAst r w
aimed t (PushHandler u x) = PushHandler t x
aimed t PopHandler = PopHandler
aimed t IterInit = IterInit
aimed t (IterNext u c) = IterNext t c
aimed t IterDrop = IterDrop
aimed t (StoreShared i) = StoreShared i
aimed t Throw = Throw
aimed t Return = Return
aimed t (EvalExpr e) = EvalExpr e
aimed t (Foreign n) = Foreign n

abbrev pub blank_instr : Instr
blank_instr = record { op = UnitOp; at = nowhere }

abbrev pub aimed_at : ℕ → Instr → Instr
aimed_at t x = record { op = aimed t x.op; at = x.at }

-- The jump at a place is pointed at a target; all the jumps at some places are.
abbrev pub patch : ℕ → ℕ → List Instr → List Instr
patch site t ops = slice_set ops site (aimed_at t (slice_index_or ops site blank_instr))

abbrev pub patch_all : List ℕ → ℕ → List Instr → List Instr
patch_all [] t ops = ops
patch_all (site ∷ sites) t ops = patch_all sites t (patch site t ops)

unfoldable pub patch_to : ℕ → ℕ → M (Unit {0})
patch_to site t s = ok tt (with_code (holding (patch site t s.code.held) s.code) s)

abbrev pub patch_here : ℕ → M (Unit {0})
patch_here site = bind here (λ t. patch_to site t)

-- ## Rows

unfoldable pub add_row : Row → M ℕ
add_row r s = cond (has_room s.rows) (ok (length s.rows.held) (with_rows (pushed r s.rows) s)) (no NoRoom)

-- ## Tables without repeats

-- The place of the first entry that is the same as x.
abbrev pub first_same : {X : Type 0} → (X → X → Bool) → X → ℕ → List X → Option ℕ
first_same same x i [] = None
first_same same x i (y ∷ ys) = cond (same y x) (Some i) (first_same same x (suc i) ys)

-- The first same entry, or a new one at the end; no room for a new one is 22.
abbrev pub entered : {X : Type 0} → Option ℕ → X → Pile X → (Pile X → Low) → Low → Out ℕ
entered (Some i) x p put s = ok i s
entered None x p put s = cond (has_room p) (ok (length p.held) (put (pushed x p))) (no NoRoom)

-- Names are the same when all their bytes are.
abbrev pub same_name : Records → ℕ → ℕ → Bool
same_name R l k = same_bytes (name_of R l).bytes (name_of R k).bytes

unfoldable pub enter_name : Records → ℕ → M ℕ
enter_name R l s = entered (first_same (same_name R) l 0 s.names.held) l s.names (λ p. with_names p s) s

-- Operator rows are the same when tokens and names are.
abbrev pub same_oper : AssignOp → AssignOp → Bool
same_oper a b = a.op_assign == b.op_assign && (a.op_assign_name == b.op_assign_name && (a.op == b.op && a.op_name == b.op_name))

unfoldable pub enter_oper : AssignOp → M ℕ
enter_oper o s = entered (first_same same_oper o 0 s.opers.held) o s.opers (λ p. with_opers p s) s

-- ## Slots

unfoldable pub depth : M ℕ
depth s = ok (length s.slots.held) s

-- Slots at the limit are 21.
unfoldable pub may_declare : M (Unit {0})
may_declare s = cond (nat_lt (length s.slots.held) s.limit) (ok tt s) (no SlotsFull)

unfoldable pub declare : ℕ → M (Unit {0})
declare l s = cond (has_room s.slots) (ok tt (with_slots (pushed l s.slots) s)) (no NoRoom)

unfoldable pub drop_slots : ℕ → M (Unit {0})
drop_slots d s = ok tt (with_slots (holding (take d s.slots.held) s.slots) s)

-- The newest slot of a name: the last one met from the oldest on.
abbrev pub newest_same : {X : Type 0} → (X → X → Bool) → X → ℕ → Option ℕ → List X → Option ℕ
newest_same same x i o [] = o
newest_same same x i o (y ∷ ys) = newest_same same x (suc i) (cond (same y x) (Some i) o) ys

unfoldable pub resolve : Records → ℕ → M (Option ℕ)
resolve R l s = ok (newest_same (same_name R) l 0 None s.slots.held) s

-- ## Blocks

-- A block begins one level deeper, at the present slots; what was before is answered, and put back at its end.
unfoldable pub enter_block : M Level
enter_block s = ok s.block (with_block (record { level = suc s.block.level; base = length s.slots.held }) s)

unfoldable pub leave_block : Level → M (Unit {0})
leave_block b s = ok tt (with_block b s)

unfoldable pub the_block : M Level
the_block s = ok s.block s

-- ## Iterators and handlers

unfoldable pub set_iters : (ℕ → ℕ) → M ℕ
set_iters f s = ok s.iters (with_iters (f s.iters) s)

unfoldable pub set_handlers : (ℕ → ℕ) → M ℕ
set_handlers f s = ok s.handlers (with_handlers (f s.handlers) s)

-- ## Loops

abbrev pub no_loop : Loop
no_loop = record { continue_target = 0; break_depth = 0; continue_depth = 0; iters = 0; owns_iterator = false; handlers = 0; breaks = 0; has_break_value = false }

abbrev pub last_loop : List Loop → Loop
last_loop ls = slice_index_or ls (length ls - 1) no_loop

unfoldable pub innermost : M (Option Loop)
innermost s = ok (cond (length s.loops == 0) None (Some (last_loop s.loops))) s

-- A loop begins: where `continue` goes, the slots that a break leaves, whether it owns the newest iterator, whether it
-- has a break value. More than 64 are refused with 13; the checks let no script come to that.
unfoldable pub enter_loop : ℕ → ℕ → Bool → Bool → M (Unit {0})
enter_loop top outside owns hasv s =
    cond (nat_lt (length s.loops) 64)
    (ok tt (with_loops (s.loops ++ record { continue_target = top; break_depth = outside; continue_depth = length s.slots.held; iters = s.iters; owns_iterator = owns; handlers = s.handlers; breaks = 0; has_break_value = hasv } ∷ []) s))
    (no TooDeep)

-- A loop ends; how many places its breaks have is answered.
unfoldable pub leave_loop : M ℕ
leave_loop s = ok (last_loop s.loops).breaks (with_loops (take (length s.loops - 1) s.loops) s)

abbrev pub one_break_more : Loop → Loop
one_break_more l = record { continue_target = l.continue_target; break_depth = l.break_depth; continue_depth = l.continue_depth; iters = l.iters; owns_iterator = l.owns_iterator; handlers = l.handlers; breaks = suc l.breaks; has_break_value = l.has_break_value }

-- A break's jump place joins the innermost loop's record.
unfoldable pub add_break : ℕ → M (Unit {0})
add_break site s =
    cond (has_room s.breaks)
    (ok tt (with_loops (slice_set s.loops (length s.loops - 1) (one_break_more (last_loop s.loops))) (with_breaks (pushed site s.breaks) s)))
    (no NoRoom)

-- The newest so many break places are pointed at the next operation and given back.
unfoldable pub land : ℕ → M (Unit {0})
land count s =
    let kept = length s.breaks.held - count in
    ok tt (with_breaks (holding (take kept s.breaks.held) s.breaks) (with_code (holding (patch_all (drop kept s.breaks.held) (length s.code.held) s.code.held) s.code) s))
