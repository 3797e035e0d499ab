-- Where lowered code stands, and what is to be shown of lowering and of setting.
use Rattle.std.proofs.Common.{◌≡◌, ℕ, suc, ◌<◌, ◌≤◌, Bool, true, List, length, get_or, Some, None, Option}
use Rattle.records.specs.Tree.{Records, Name, Oper, Head, Head.noop, Head.var, Head.expr, Head.call, Head.assign, Head.other, Head.block, Head.try, Head.for, Head.if, Head.while, Head.do_loop, Head.break, Head.continue, Head.return, Head.throw, Tree.node, Forest.nil, Forest.more, Stmt, Block, name_of}
use Rattle.code.specs.declared.ops.Op.TheVariants.{EvalAst}
use Rattle.code.specs.declared.ops.Instr.{Instr}
use Rattle.code.specs.declared.ops.Row.{Row}
use Rattle.meaning.specs.Machine.{no_row}
use Rattle.meaning.specs.Calls.{instr_at}
use Rattle.meaning.specs.Fed.{Tables, name_at, sign_at, number_of}
use Rattle.meaning.specs.LowerState.{Low, Out.ok}
use Rattle.meaning.specs.Lower.{Rooms, lowering}
use Rattle.meaning.specs.Compiled.{tables}
use Rattle.meaning.specs.Writer.{Writer}
use Rattle.meaning.specs.SetCode.{expr_of, targets_fine, set_code, place_of}
use Rattle.meaning.specs.Agreement.{Heights}
use Rattle.meaning.proofs.Place.{Layout, CodeScript}
use Rattle.meaning.proofs.Layouts.{set_layout}

abbrev pub no_heights : Heights
no_heights = record { values = 0; slots = 0; iters = 0; handlers = 0 }

-- Lowered code: an expression is one operation, whose row names it; the heights are listed place by place.
abbrev pub low_layout : List Instr → List Row → Tables → ℕ → List Heights → Layout
low_layout code rows T deepest hs = record {
  Op' = λ o p h a b. (a < length code) × (instr_at code a ≡ record { op = o; at = p }) × (expr_of rows o ≡ None) × (suc a ≡ b) × (get_or hs a no_heights ≡ h);
  Exp' = λ e a b. (r : ℕ) × (a < length code) × ((instr_at code a).op ≡ EvalAst r true) × (expr_of rows (EvalAst r true) ≡ Some e) × (suc a ≡ b);
  Name' = λ x b. (x < length T.names) × (name_at T x ≡ b);
  Oper' = λ r s. sign_at T r ≡ s;
  Row' = λ r i. (r < length rows) × (get_or rows r no_row ≡ record { kind = 2; number = i });
  Room' = λ n. n < deepest;
}

-- Every name of a tree has the bytes that its label spells.
abbrev pub SpelledName : Records → Name → Type 0
SpelledName R x = x.bytes ≡ (name_of R x.label).bytes

abbrev pub SpelledAny : Records → Option Name → Type 0
SpelledAny R None = Unit {0}
SpelledAny R (Some x) = SpelledName R x

abbrev pub SpelledOper : Records → Option Oper → Type 0
SpelledOper R None = Unit {0}
SpelledOper R (Some o) = SpelledName R o.name₁ × SpelledName R o.name₂

abbrev pub SpelledHead : Records → Head → Type 0
SpelledHead R noop = Unit {0}
SpelledHead R (var k x e r) = SpelledName R x
SpelledHead R (expr e) = Unit {0}
SpelledHead R (call x i) = SpelledName R x
SpelledHead R (assign x e o p q) = SpelledName R x × SpelledOper R o
SpelledHead R (other i) = Unit {0}
SpelledHead R block = Unit {0}
SpelledHead R (try x p) = SpelledAny R x
SpelledHead R (for x e p) = SpelledName R x
SpelledHead R (if e) = Unit {0}
SpelledHead R (while e p) = Unit {0}
SpelledHead R (do_loop u e p) = Unit {0}
SpelledHead R (break e) = Unit {0}
SpelledHead R continue = Unit {0}
SpelledHead R (return e) = Unit {0}
SpelledHead R (throw e p) = Unit {0}

abbrev mutual
  pub SpelledS : Records → Stmt → Type 0
  SpelledS R (node h B C) = SpelledHead R h × Spelled R B × Spelled R C

  pub Spelled : Records → Block → Type 0
  Spelled R nil = Unit {0}
  Spelled R (more s b) = SpelledS R s × Spelled R b

-- No name comes twice.
abbrev pub Distinct : Tables → Type 0
Distinct T = (x : ℕ) → x < length T.names → number_of T (name_at T x) ≡ Some x

-- What accepted lowering gives: its code stands, at the heights of one list.
pub record Stands (R : Records) (B : Block) (s : Low) : Type 0 where
  pub heights : List Heights
  pub code : CodeScript (low_layout s.code.held s.rows.held (tables R s) s.deepest heights) R.keep B
  pub distinct : Distinct (tables R s)
  pub some : 0 < length s.code.held

abbrev pub LoweringStands : Type 0
LoweringStands = (R : Records) (m : Rooms) (B : Block) (s : Low) → Spelled R B → lowering R m B ≡ ok tt s → Stands R B s

-- What setting gives: lowered code that stands is set code that stands, with heights at every place outside a segment.
pub record Moved (code : List Instr) (rows : List Row) (T : Tables) (W : Writer) (room : ℕ) (k : Bool) (B : Block) : Type 0 where
  pub heights : ℕ → Heights
  pub outside : ℕ → Bool
  -- every operation that works out no expression is outside a segment
  pub marks : (i : ℕ) → i < length code → expr_of rows (instr_at code i).op ≡ None → outside (place_of W rows code i) ≡ true
  pub stands : CodeScript (set_layout (set_code W rows code) rows T W room heights outside) k B

abbrev pub SettingStands : Type 0
SettingStands =
    (code : List Instr) (rows : List Row) (T : Tables) (W : Writer) (deepest room : ℕ) (hs : List Heights) (k : Bool) (B : Block)
    → ((i e : ℕ) → i < length code → expr_of rows (instr_at code i).op ≡ Some e → W.known e ≡ true)
    → targets_fine (length code) code ≡ true → deepest ≤ room
    → CodeScript (low_layout code rows T deepest hs) k B → Moved code rows T W room k B
