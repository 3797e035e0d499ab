-- The tree that a script's records stand for.
use Rattle.std.specs.Prelude.{ℕ, Bool, cond, not, List, take, drop, Some, None, Option, ◌==◌, bit_and, slice_index_or}
use Rattle.records.specs.declared.types.Position.{Position}
use Rattle.records.specs.declared.types.Label.{Label}
use Rattle.records.specs.declared.types.Expr.{Expr}
use Rattle.records.specs.declared.types.Operator.{Operator}
use Rattle.records.specs.declared.types.Node.{Node}
use Rattle.records.specs.declared.types.Script.{Script}

-- ## Records as lists

-- A script's slices as lists: what every definition below speaks of.
pub record Records : Type 0 where
  pub text : List ℕ
  pub labels : List Label
  pub exprs : List Expr
  pub operators : List Operator
  pub nodes : List Node
  pub limit : ℕ
  pub keep : Bool

abbrev pub records : Script → Records
records s = record { text = s.text.now; labels = s.labels.now; exprs = s.exprs.now; operators = s.operators.now; nodes = s.nodes.now; limit = s.limit; keep = s.keep }

-- The position that is none.
abbrev pub nowhere : Position
nowhere = record { line = 0; column = 0 }

-- What stands past the end of a table.
abbrev pub no_label : Label
no_label = record { start = 0; length = 0 }

abbrev pub no_expr : Expr
no_expr = record { form = 0; at = nowhere; start = nowhere; end = 0; label = 0 }

abbrev pub no_operator : Operator
no_operator = record { compound = record { token = 0; label = 0 }; binary = record { token = 0; label = 0 } }

abbrev pub no_node : Node
no_node = record { kind = 0; flags = 0; at = nowhere; mark = nowhere; mid = 0; end = 0; expr = 0; label = 0; counter = 0; reuse = 0; target = 0; operator = 0 }

abbrev pub label_at : Records → ℕ → Label
label_at R i = slice_index_or R.labels i no_label

abbrev pub expr_at : Records → ℕ → Expr
expr_at R i = slice_index_or R.exprs i no_expr

abbrev pub operator_at : Records → ℕ → Operator
operator_at R i = slice_index_or R.operators i no_operator

abbrev pub node_at : Records → ℕ → Node
node_at R i = slice_index_or R.nodes i no_node

-- Is a flag set?
abbrev pub flagged : ℕ → ℕ → Bool
flagged flag flags = not (bit_and flags flag == 0)

-- ## What a tree keeps of its records

-- A name: its bytes, and the label that spells it.
pub record Name : Type 0 where
  pub label : ℕ
  pub bytes : List ℕ

-- An expression: its record's number, form and two positions.
pub record Exp : Type 0 where
  pub number : ℕ
  pub form : ℕ
  pub at : Position
  pub start : Position

-- An operator: a token and a name twice, `op=` and then `op`.
pub record Oper : Type 0 where
  pub token₁ : ℕ
  pub name₁ : Name
  pub token₂ : ℕ
  pub name₂ : Name

-- A statement without its blocks: one case for each way that a statement runs.
pub data Head : Type 0 where
  -- nothing
  noop : Head
  -- let or const: constant?, name, initial value, reuse index (0 is none)
  var : Bool → Name → Exp → ℕ → Head
  -- an expression for its value
  expr : Exp → Head
  -- a call: the function's name, the node
  call : Name → ℕ → Head
  -- a plain variable on the left: name, right side, operator, the operator's position, the variable's position
  assign : Name → Exp → Option Oper → Position → Position → Head
  -- any other assignment: the node
  other : ℕ → Head
  block : Head
  -- the catch name, the catch expression's position
  try : Option Name → Position → Head
  -- the loop variable, what is gone over, the body's position
  for : Name → Exp → Position → Head
  if : Exp → Head
  -- the condition, the body's position
  while : Exp → Position → Head
  -- goes round while false?, the condition, the body's position
  do_loop : Bool → Exp → Position → Head
  break : Option Exp → Head
  continue : Head
  return : Option Exp → Head
  -- the value, the position of `throw`
  throw : Option Exp → Position → Head

-- A tree, for expressions and for statements alike: what stands there, with a first and a second list of trees below.
mutual
  pub data Tree (H : Type 0) : Type 0 where
    node : H → Forest H → Forest H → Tree H

  pub data Forest (H : Type 0) : Type 0 where
    nil : Forest H
    more : Tree H → Forest H → Forest H

-- A statement with its body and its branch; a block.
abbrev pub Stmt : Type 0
Stmt = Tree Head

abbrev pub Block : Type 0
Block = Forest Head

-- ## What a record says

abbrev pub name_of : Records → ℕ → Name
name_of R l = record { label = l; bytes = take (label_at R l).length (drop (label_at R l).start R.text) }

abbrev pub exp_of : Records → ℕ → Exp
exp_of R e = record { number = e; form = (expr_at R e).form; at = (expr_at R e).at; start = (expr_at R e).start }

abbrev pub oper_of : Records → ℕ → Oper
oper_of R o = record { token₁ = (operator_at R o).compound.token; name₁ = name_of R (operator_at R o).compound.label; token₂ = (operator_at R o).binary.token; name₂ = name_of R (operator_at R o).binary.label }

-- A reference of 0 is absent.
abbrev pub if_any : {A : Type 0} → (ℕ → A) → ℕ → Option A
if_any f r = cond (r == 0) None (Some (f r))

-- What the node at i is, without its blocks.
abbrev pub head_of : Records → ℕ → Head
head_of R i =
    let n = node_at R i in
    cond (n.kind == 2) (var (flagged 1 n.flags) (name_of R n.label) (exp_of R n.expr) n.reuse)
    (cond (n.kind == 3) (expr (exp_of R n.expr))
    (cond (n.kind == 4) (call (name_of R n.label) i)
    (cond (n.kind == 5) (cond (n.target == 1) (assign (name_of R n.label) (exp_of R n.expr) (if_any (oper_of R) n.operator) n.at n.mark) (other i))
    (cond (n.kind == 6) block
    (cond (n.kind == 7) (try (if_any (name_of R) n.label) n.mark)
    (cond (n.kind == 8) (for (name_of R n.label) (exp_of R n.expr) n.mark)
    (cond (n.kind == 9) (if (exp_of R n.expr))
    (cond (n.kind == 10) (while (exp_of R n.expr) n.mark)
    (cond (n.kind == 11) (do_loop (flagged 4 n.flags) (exp_of R n.expr) n.mark)
    (cond (n.kind == 12) (cond (flagged 8 n.flags) (break (if_any (exp_of R) n.expr)) continue)
    (cond (n.kind == 13) (cond (flagged 8 n.flags) (throw (if_any (exp_of R) n.expr) n.at) (return (if_any (exp_of R) n.expr)))
    noop)))))))))))
