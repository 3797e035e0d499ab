-- Setting: every expression's segment is put where it belongs, and every target is moved.
use Rattle.std.specs.Prelude.{ℕ, zero, suc, ◌+◌, ◌-◌, Bool, true, cond, ◌&&◌, ◌||◌, List, [], ◌∷◌, ◌++◌, length, Some, None, Option, ◌==◌, nat_le, nat_lt, slice_index_or}
use Rattle.records.specs.Tree.{Records}
use Rattle.records.specs.Checks.{every, label_law, expr_sound}
use Rattle.code.specs.declared.ops.Op.{Op}
use Rattle.code.specs.declared.ops.Op.TheVariants.{Unit as UnitOp, Bool as BoolOp, StoreLocal, LoadNamed, AssignNamed, AssignLocal, DeclareLocal, Pop, Jump, JumpIfTrue, JumpIfFalse, Rotate, UnwindTo, Tick, Checkpoint, EvalAst, PushHandler, PopHandler, IterInit, IterNext, IterDrop, StoreShared, Throw, Return, EvalExpr, Foreign}
use Rattle.code.specs.declared.ops.Instr.{Instr}
use Rattle.code.specs.declared.ops.Row.{Row}
use Rattle.meaning.specs.Machine.{no_row}
use Rattle.meaning.specs.Writer.{Writer, shift}

-- ## Pieces

-- The expression that an operation works out, if its row is an expression's.
abbrev pub row_expr : List Row → ℕ → Option ℕ
row_expr rows r = cond (nat_lt r (length rows) && (slice_index_or rows r no_row).kind == 1) (Some (slice_index_or rows r no_row).number) None

abbrev pub expr_of : List Row → Op → Option ℕ
expr_of rows UnitOp = None
expr_of rows (BoolOp b) = None
expr_of rows (StoreLocal i k) = None
expr_of rows (LoadNamed x) = None
expr_of rows (AssignNamed x o) = None
expr_of rows (AssignLocal i x o) = None
expr_of rows (DeclareLocal x k g) = None
expr_of rows Pop = None
expr_of rows (Jump t) = None
expr_of rows (JumpIfTrue t) = None
expr_of rows (JumpIfFalse t) = None
expr_of rows (Rotate n) = None
expr_of rows (UnwindTo n) = None
expr_of rows Tick = None
expr_of rows Checkpoint = None
expr_of rows (EvalAst r w) = row_expr rows r
expr_of rows (PushHandler t x) = None
expr_of rows PopHandler = None
expr_of rows IterInit = None
expr_of rows (IterNext t c) = None
expr_of rows IterDrop = None
expr_of rows (StoreShared i) = None
expr_of rows Throw = None
expr_of rows Return = None
expr_of rows (EvalExpr e) = None
expr_of rows (Foreign n) = None

-- The target of an operation that has one.
abbrev pub target_of : Op → Option ℕ
target_of UnitOp = None
target_of (BoolOp b) = None
target_of (StoreLocal i k) = None
target_of (LoadNamed x) = None
target_of (AssignNamed x o) = None
target_of (AssignLocal i x o) = None
target_of (DeclareLocal x k g) = None
target_of Pop = None
target_of (Jump t) = Some t
target_of (JumpIfTrue t) = Some t
target_of (JumpIfFalse t) = Some t
target_of (Rotate n) = None
target_of (UnwindTo n) = None
target_of Tick = None
target_of Checkpoint = None
target_of (EvalAst r w) = None
target_of (PushHandler t x) = Some t
target_of PopHandler = None
target_of IterInit = None
target_of (IterNext t c) = Some t
target_of IterDrop = None
target_of (StoreShared i) = None
target_of Throw = None
target_of Return = None
target_of (EvalExpr e) = None
target_of (Foreign n) = None

-- An operation with its target moved by a map of places.
abbrev pub move_op : (ℕ → ℕ) → Op → Op
move_op μ UnitOp = UnitOp
move_op μ (BoolOp b) = BoolOp b
move_op μ (StoreLocal i k) = StoreLocal i k
move_op μ (LoadNamed x) = LoadNamed x
move_op μ (AssignNamed x o) = AssignNamed x o
move_op μ (AssignLocal i x o) = AssignLocal i x o
move_op μ (DeclareLocal x k g) = DeclareLocal x k g
move_op μ Pop = Pop
move_op μ (Jump t) = Jump (μ t)
move_op μ (JumpIfTrue t) = JumpIfTrue (μ t)
move_op μ (JumpIfFalse t) = JumpIfFalse (μ t)
move_op μ (Rotate n) = Rotate n
move_op μ (UnwindTo n) = UnwindTo n
move_op μ Tick = Tick
move_op μ Checkpoint = Checkpoint
move_op μ (EvalAst r w) = EvalAst r w
move_op μ (PushHandler t x) = PushHandler (μ t) x
move_op μ PopHandler = PopHandler
move_op μ IterInit = IterInit
move_op μ (IterNext t c) = IterNext (μ t) c
move_op μ IterDrop = IterDrop
move_op μ (StoreShared i) = StoreShared i
move_op μ Throw = Throw
move_op μ Return = Return
move_op μ (EvalExpr e) = EvalExpr e
move_op μ (Foreign n) = Foreign n

-- A segment with its targets moved on.
abbrev pub shift_all : ℕ → List Instr → List Instr
shift_all d [] = []
shift_all d (x ∷ xs) = shift d x ∷ shift_all d xs

-- ## What operations and rows must be

-- A target is below the count of operations; a residual row is an expression's, which is a record, or a statement's.
abbrev pub target_fine : ℕ → Option ℕ → Bool
target_fine n None = true
target_fine n (Some t) = nat_lt t n

abbrev pub targets_fine : ℕ → List Instr → Bool
targets_fine n [] = true
targets_fine n (x ∷ xs) = target_fine n (target_of x.op) && targets_fine n xs

abbrev pub row_fine : ℕ → Row → Bool
row_fine exprs r = cond (r.kind == 1) (nat_lt 0 r.number && nat_lt r.number exprs) (r.kind == 2)

abbrev pub rows_fine : ℕ → List Row → Bool
rows_fine exprs [] = true
rows_fine exprs (r ∷ rs) = row_fine exprs r && rows_fine exprs rs

-- Sizes that are too large: text, labels, expressions, operations, and the slice for set code.
abbrev pub set_too_large : Records → ℕ → ℕ → Bool
set_too_large R ops room =
    nat_lt 1048576 (length R.text) || (nat_lt 65536 (length R.labels) || (nat_lt 1048576 (length R.exprs) || (nat_lt 4194304 ops || nat_lt 4194304 room)))

-- The first of two numbers that is there.
abbrev pub or_next : Option ℕ → Option ℕ → Option ℕ
or_next None next = next
or_next (Some n) next = Some n

-- ## Setting by a writer, with the residual rows

module _ (W : Writer) (rows : List Row) where
  -- How many operations stand for one.
  abbrev pub width_of : Option ℕ → ℕ
  width_of None = 1
  width_of (Some e) = length (W.segment e)

  abbrev pub width : Instr → ℕ
  width x = width_of (expr_of rows x.op)

  -- The new place of the operation at place i.
  abbrev pub place_of : List Instr → ℕ → ℕ
  place_of [] i = 0
  place_of (x ∷ xs) zero = 0
  place_of (x ∷ xs) (suc i) = width x + place_of xs i

  -- What stands for an operation, at its new place.
  abbrev pub piece_of : (ℕ → ℕ) → ℕ → Instr → Option ℕ → List Instr
  piece_of μ at x None = record { op = move_op μ x.op; at = x.at } ∷ []
  piece_of μ at x (Some e) = shift_all at (W.segment e)

  abbrev pub piece : (ℕ → ℕ) → ℕ → Instr → List Instr
  piece μ at x = piece_of μ at x (expr_of rows x.op)

  -- The set code from a new place on.
  abbrev pub set_from : (ℕ → ℕ) → ℕ → List Instr → List Instr
  set_from μ at [] = []
  set_from μ at (x ∷ xs) = piece μ at x ++ set_from μ (width x + at) xs

  abbrev pub set_code : List Instr → List Instr
  set_code ops = set_from (place_of ops) 0 ops

  -- ## Refusals

  -- In code order: 17 at an unknown expression, else 23 where what stands for an operation finds no room.
  abbrev pub write_fault : ℕ → Option ℕ → Option ℕ
  write_fault room None = cond (nat_lt 0 room) None (Some 23)
  write_fault room (Some e) = cond (W.known e) (cond (nat_le (length (W.segment e)) room) None (Some 23)) (Some 17)

  abbrev pub write_faults : ℕ → List Instr → Option ℕ
  write_faults room [] = None
  write_faults room (x ∷ xs) = or_next (write_fault room (expr_of rows x.op)) (write_faults (room - width x) xs)

  -- The first number that setting meets: sizes; labels and expressions; targets and rows; the memory for new places, one
  -- number an operation; then what is written, in code order.
  unfoldable pub set_fault : Records → List Instr → ℕ → ℕ → Option ℕ
  set_fault R ops room places =
      cond (set_too_large R (length ops) room) (Some 10)
      (cond (every (label_law R) (length R.labels - 1) 1 && every (expr_sound R) (length R.exprs - 1) 1)
      (cond (targets_fine (length ops) ops && rows_fine (length R.exprs) rows)
      (cond (nat_le (length ops) places) (write_faults room ops) (Some 23))
      (Some 11))
      (Some 11))
