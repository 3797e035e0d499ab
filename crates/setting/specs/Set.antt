-- What setting answers, and what it leaves in lent memory.
use Rattle.std.specs.Prelude.{◌≡◌, ℕ, suc, ◌+◌, ◌-◌, ◌<◌, ◌≤◌, true, cond, List, [], ◌∷◌, ◌++◌, length, take, drop, replicate, Some, None, Ok, Err, Option, Result, nat_lt, slice_index, slice_set}
use Rattle.records.specs.Tree.{Records}
use Rattle.records.specs.Numbers.{number_of}
use Rattle.records.specs.declared.refusals.Refusal.{Refusal}
use Rattle.code.specs.declared.ops.Op.TheVariants.{Unit as UnitOp}
use Rattle.code.specs.declared.ops.Instr.{Instr}
use Rattle.code.specs.declared.ops.Row.{Row}
use Rattle.meaning.specs.Writer.{Writer}
use Rattle.meaning.specs.Writers.{plain}
use Rattle.meaning.specs.SetCode.{expr_of, move_op, shift_all, width_of, piece_of, place_of, set_from, set_code, write_fault, write_faults, set_fault}

-- ## The call

-- The number of a refusal in its place.
abbrev pub numbered : Result ℕ Refusal → Result ℕ ℕ
numbered (Ok n) = Ok n
numbered (Err e) = Err (number_of e)

-- A name table of more entries than there may be labels is too large; then setting's own refusals.
abbrev pub fault : Writer → Records → List ℕ → List Instr → List Row → ℕ → ℕ → Option ℕ
fault W R names ops rows room places = cond (nat_lt 65536 (length names)) (Some 10) (set_fault W rows R ops room places)

-- The answer to a fault, or to none: the length of the code.
abbrev pub outcome : Option ℕ → List Instr → Result ℕ ℕ
outcome None code = Ok (length code)
outcome (Some n) code = Err n

-- What is kept of the code.
abbrev pub kept : Option ℕ → List Instr → List Instr
kept None code = code
kept (Some n) code = []

-- So many places, a list at their start and blanks after it.
abbrev pub padded : {A : Type 0} → A → ℕ → List A → List A
padded b room xs = xs ++ replicate (room - length xs) b

abbrev pub blank : Instr
blank = plain UnitOp

-- What the call promises, for the memory that it is lent, its answer and the memory afterwards: the fault's number or
-- the count; the code at the start and blanks after it, or blanks alone; no remembered places.
pub record SetBy (W : Writer) (R : Records) (names : List ℕ) (ops : List Instr) (rows : List Row) (places : List ℕ) (out : List Instr)
    (r : Result ℕ Refusal) (places' : List ℕ) (out' : List Instr) : Type 0 where
  pub answer : numbered r ≡ outcome (fault W R names ops rows (length out) (length places)) (set_code W rows ops)
  pub code : out' ≡ padded blank (length out) (kept (fault W R names ops rows (length out) (length places)) (set_code W rows ops))
  pub forgotten : places' ≡ replicate (length places) 0

-- ## Inside

-- A segment put into code from a place on, its targets moved on; or why not.
abbrev pub SegmentPut : Writer → ℕ → ℕ → List Instr → Result ℕ Refusal → List Instr → Type 0
SegmentPut W e at b (Ok n) a =
    (W.known e ≡ true) × (n ≡ length (W.segment e) + at) × (n ≤ length b) × (a ≡ take at b ++ (shift_all at (W.segment e) ++ drop n b))
SegmentPut W e at b (Err x) a = write_fault W [] (length b - at) (Some e) ≡ Some (number_of x)

-- What stands for an operation that works out this expression, or none, its own target not moved yet; or why nothing does.
abbrev pub PieceAs : Writer → List Row → Instr → Option ℕ → ℕ → List Instr → Result ℕ Refusal → List Instr → Type 0
PieceAs W rows x o at b (Ok n) a =
    (write_fault W rows (length b - at) o ≡ None) × (n ≡ width_of W rows o + at) × (n ≤ length b)
    × (a ≡ take at b ++ (piece_of W rows (λ t. t) at x o ++ drop n b))
PieceAs W rows x o at b (Err e) a = write_fault W rows (length b - at) o ≡ Some (number_of e)

abbrev pub PiecePut : Writer → List Row → Instr → ℕ → List Instr → Result ℕ Refusal → List Instr → Type 0
PiecePut W rows x at b r a = PieceAs W rows x (expr_of rows x.op) at b r a

-- Operations outside segments, by their places, are put at their new places with their targets moved.
abbrev pub move_at : (ℕ → ℕ) → ℕ → Instr → Option ℕ → List Instr → List Instr
move_at μ i x None out = slice_set out (μ i) (record { op = move_op μ x.op; at = x.at })
move_at μ i x (Some e) out = out

abbrev pub moved_from : List Row → (ℕ → ℕ) → ℕ → List Instr → List Instr → List Instr
moved_from rows μ i [] out = out
moved_from rows μ i (x ∷ xs) out = moved_from rows μ (suc i) xs (move_at μ i x (expr_of rows x.op) out)

-- All pieces stand one after the other, each from the place that is remembered for it on.
abbrev pub Placed : Writer → List Row → List Instr → List Instr → Result ℕ Refusal → List ℕ → List Instr → Type 0
Placed W rows ops b (Ok n) places a =
    (write_faults W rows (length b) ops ≡ None) × ((i : ℕ) → i < length ops → slice_index places i ≡ place_of W rows ops i)
    × (n ≤ length b) × (take n a ≡ set_from W rows (λ t. t) 0 ops)
Placed W rows ops b (Err e) places a = write_faults W rows (length b) ops ≡ Some (number_of e)

-- The set code stands at the start; or why not.
abbrev pub SetDone : Writer → Records → List ℕ → List Instr → List Row → ℕ → ℕ → Result ℕ Refusal → List Instr → Type 0
SetDone W R names ops rows places room (Ok n) a =
    (fault W R names ops rows room places ≡ None) × (n ≤ room) × (take n a ≡ set_code W rows ops)
SetDone W R names ops rows places room (Err e) a = fault W R names ops rows room places ≡ Some (number_of e)
