-- The agreement, whole: for all records, rooms, slot memory and every writer that keeps the law.
use Rattle.std.specs.Prelude.{◌≡◌, ℕ, List, length, None}
use Rattle.std.proofs.Math.Option.{none}
use Rattle.records.specs.Tree.{Records, Block}
use Rattle.records.specs.Checks.{checked}
use Rattle.records.specs.Accepts.{tree_of}
use Rattle.meaning.specs.LowerState.{Low, Out.ok}
use Rattle.meaning.specs.Lower.{Rooms, lowering}
use Rattle.meaning.specs.Compiled.{tables}
use Rattle.code.specs.declared.ops.Instr.{Instr}
use Rattle.code.specs.declared.ops.Row.{Row}
use Rattle.meaning.specs.Calls.{fits, Call, Call.run, does, loaded, after_calls}
use Rattle.meaning.specs.Declines.{Declining, Suited, CountRight}
use Rattle.meaning.specs.Fed.{Tables}
use Rattle.meaning.specs.Writer.{Writer, Lawful}
use Rattle.meaning.specs.SetCode.{set_fault, set_code}
use Rattle.meaning.specs.Agreement.{Agreement}

-- What is promised of a player that was loaded with a script's set code, after every list of calls.
pub record Promise (B : Block) (ops : List Instr) (rows : List Row) (T : Tables) (W : Writer) (room : ℕ) : Type 0 where
  -- it agrees with the tree's run, is never stuck, and meets each operation outside a segment at one height
  pub agreement : Agreement B ops rows T W room
  -- the next call is declined exactly where the numbers say, and then changes nothing
  pub declines : (cs : List Call) (c : Call) → let code = set_code W rows ops in Declining code rows (length T.names) c (after_calls code rows (length T.names) cs (loaded room))
  -- a run's count is the number of its steps
  pub counts :
      (cs : List Call) (n : ℕ) → let code = set_code W rows ops in let s = after_calls code rows (length T.names) cs (loaded room) in
      let t = does code rows (length T.names) (run n) s in CountRight code rows n s t.reply t.left
  -- while a question waits, the player takes the answers that the question takes
  pub suited : (cs : List Call) → Suited (after_calls (set_code W rows ops) rows (length T.names) cs (loaded room))

-- From a script whose records the checks accept, and that lowering, setting and `fits` accept, the player keeps the
-- promise: for every list of calls, declined ones among them, and every writer that keeps the writers' law.
abbrev pub WholeAgreement : Type 0
WholeAgreement =
    (R : Records) (m : Rooms) (s : Low) (W : Writer) (room code_room places : ℕ)
    → checked R ≡ none
    → lowering R m (tree_of R) ≡ ok tt s
    → Lawful (tables R s) (length R.exprs) W
    → set_fault W s.rows.held R s.code.held code_room places ≡ None
    → fits room s.deepest ≡ None
    → Promise (tree_of R) s.code.held s.rows.held (tables R s) W room
