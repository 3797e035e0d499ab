-- What acceptance means: the records are the preorder of a tree.
use Rattle.std.specs.Prelude.{◌≡◌, ℕ, suc, ◌<◌, ◌≤◌, max, Bool, true, false, cond, length, Ok, Err, Result, ◌==◌}
use Rattle.std.proofs.Math.Option.{Option, none, some}
use Rattle.records.specs.declared.types.Position.{Position}
use Rattle.records.specs.declared.refusals.Refusal.{Refusal}
use Rattle.records.specs.Tree.{Records, Name, Head, Head.noop, Head.var, Head.expr, Head.call, Head.assign, Head.other, Head.block, Head.try, Head.for, Head.if, Head.while, Head.do_loop, Head.break, Head.continue, Head.return, Head.throw, Forest, Tree.node, Forest.nil, Forest.more, Stmt, Block, expr_at, node_at, name_of, head_of}
use Rattle.records.specs.Preorder.{Table, ForestAt, AllPlaced, forest_from, tree_from}
use Rattle.records.specs.Checks.{too_large, label_law, operator_law, expr_law, node_law}

-- An expression without its items: its record's number, form, positions, and the name that it has if it is one.
pub record Term : Type 0 where
  pub number : ℕ
  pub form : ℕ
  pub at : Position
  pub start : Position
  pub name : Option Name

abbrev pub term_of : Records → ℕ → Term
term_of R i =
    record { number = i; form = (expr_at R i).form; at = (expr_at R i).at; start = (expr_at R i).start; name = cond ((expr_at R i).form == 5) (some (name_of R (expr_at R i).label)) none }

-- Expressions and statements as tables of records. An expression has one list of parts: its items.
abbrev pub expressions : Records → Table Term
expressions R = record { size = length R.exprs; head = term_of R; mid = λ i. (expr_at R i).end; end = λ i. (expr_at R i).end; law = expr_law R }

abbrev pub statements : Records → Table Head
statements R = record { size = length R.nodes; head = head_of R; mid = λ i. (node_at R i).mid; end = λ i. (node_at R i).end; law = node_law R }

-- Statements that have blocks.
abbrev pub has_blocks : Head → Bool
has_blocks noop = false
has_blocks (var c n e r) = false
has_blocks (expr e) = false
has_blocks (call n i) = false
has_blocks (assign n e o p q) = false
has_blocks (other i) = false
has_blocks block = true
has_blocks (try n p) = true
has_blocks (for n e p) = true
has_blocks (if e) = true
has_blocks (while e p) = true
has_blocks (do_loop c e p) = true
has_blocks (break e) = false
has_blocks continue = false
has_blocks (return e) = false
has_blocks (throw e p) = false

-- How many statements that have blocks stand inside one another.
abbrev mutual
  pub height_s : Stmt → ℕ
  height_s (node h body branch) = cond (has_blocks h) (suc (max (height body) (height branch))) (max (height body) (height branch))

  pub height : Block → ℕ
  height nil = 0
  height (more s b) = max (height_s s) (height b)

-- A script as a tree: its expressions, and the block of its statements.
pub record ScriptTree : Type 0 where
  pub terms : Forest Term
  pub block : Block

-- The records are the preorder of a tree: sizes are within their limits, labels and operators are lawful, the
-- expressions' trees stand from record 1 on to the end, and the statements' from record 0 on, nested at most 64 deep.
pub record Preorder (R : Records) (T : ScriptTree) : Type 0 where
  pub sizes : too_large R ≡ false
  pub labels : (i : ℕ) → 1 ≤ i → i < length R.labels → label_law R i ≡ true
  pub operators : (i : ℕ) → 1 ≤ i → i < length R.operators → operator_law R i ≡ true
  pub terms : ForestAt (expressions R) T.terms 1 (max 1 (length R.exprs))
  pub block : ForestAt (statements R) T.block 0 (length R.nodes)
  pub depth : height T.block ≤ 64

-- ## The tree that is read from records

-- The block of the statements from a up to before b, the statement at i, and the whole script's block.
abbrev pub block_from : Records → ℕ → ℕ → Block
block_from R a b = forest_from (statements R) a b

abbrev pub stmt_from : Records → ℕ → Stmt
stmt_from R i = tree_from (statements R) i

abbrev pub tree_of : Records → Block
tree_of R = block_from R 0 (length R.nodes)

-- The whole script.
abbrev pub script_of : Records → ScriptTree
script_of R = record { terms = forest_from (expressions R) 1 (length R.exprs); block = tree_of R }

-- The records are the preorder of the tree that is read from them, and of no other.
pub record OneTree (R : Records) : Type 0 where
  pub stands : Preorder R (script_of R)
  pub only : (T : ScriptTree) → Preorder R T → T ≡ script_of R

-- Accepted records are the preorder of one tree, and refused records of none.
abbrev pub ByTree : Records → Result (Unit {0}) Refusal → Type 0
ByTree R (Ok x) = OneTree R
ByTree R (Err e) = (T : ScriptTree) → Preorder R T → ⊥

-- ## What later calls rest on

-- Each record stands well by itself: references name records, ranges lie in the tables.
pub record Sound (R : Records) : Type 0 where
  pub sizes : too_large R ≡ false
  pub labels : (i : ℕ) → 1 ≤ i → i < length R.labels → label_law R i ≡ true
  pub operators : (i : ℕ) → 1 ≤ i → i < length R.operators → operator_law R i ≡ true
  pub exprs : AllPlaced (expressions R) 1
  pub nodes : AllPlaced (statements R) 0

abbrev pub SoundIfOk : Records → Result (Unit {0}) Refusal → Type 0
SoundIfOk R (Ok x) = Sound R
SoundIfOk R (Err e) = Unit {0}
