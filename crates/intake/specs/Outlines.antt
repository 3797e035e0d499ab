-- The outline of a tree: a line for each statement.
use Rattle.std.specs.Prelude.{ℕ, zero, suc, ◌+◌, ◌-◌, Bool, true, false, cond, not, ltb, List, [], ◌∷◌, ◌++◌, length, take, Some, None, codes, Option, ◌==◌, nat_le, nat_lt, slice_index_or}
use Rattle.std.specs.List.{prefix_len}
use Rattle.records.specs.declared.kinds.Kind.{Kind}
use Rattle.records.specs.declared.kinds.Kind.TheVariants.{Noop, Var, Expr as Exp, FnCall, Assignment, Block, TryCatch, For, If, While, Do, BreakLoop, Return}
use Rattle.records.specs.declared.kinds.Form.{Form}
use Rattle.records.specs.declared.kinds.Form.TheVariants.{Unit as UnitForm, True, Opaque, False, Name as NameForm, AllOf, AnyOf}
use Rattle.records.specs.declared.kinds.Target.{Target}
use Rattle.records.specs.declared.kinds.Target.TheVariants.{Variable, Access, Other}
use Rattle.records.specs.declared.types.Expr.{Expr}
use Rattle.records.specs.declared.types.Node.{Node}
use Rattle.records.specs.Tree.{Records, name_of, label_at, expr_at, operator_at, no_node, flagged}
use Rattle.records.specs.Meanings.{kind_of, form_of, target_of}
use Rattle.intake.specs.Texts.{newline, numbered, positioned, indented, shown_if}

-- ## Records by number, where there is one

abbrev pub name_in : Records → ℕ → Option (List ℕ)
name_in R l =
    cond (nat_lt l (length R.labels))
    (cond (nat_le ((label_at R l).start + (label_at R l).length) (length R.text)) (Some (name_of R l).bytes) None)
    None

abbrev pub expr_in : Records → ℕ → Option Expr
expr_in R e = cond (nat_lt e (length R.exprs)) (Some (expr_at R e)) None

-- The label of an operator's compound form.
abbrev pub compound_in : Records → ℕ → Option ℕ
compound_in R o = cond (nat_lt o (length R.operators)) (Some (operator_at R o).compound.label) None

abbrev pub labelled : Records → ℕ → List ℕ → List ℕ
labelled R l out = shown_if (name_in R l) out

-- ## Expressions

-- The number of records inside a list.
abbrev pub inside : Option Form → ℕ → Expr → ℕ
inside None e x = 0
inside (Some UnitForm) e x = 0
inside (Some True) e x = 0
inside (Some Opaque) e x = 0
inside (Some False) e x = 0
inside (Some NameForm) e x = 0
inside (Some AllOf) e x = x.end - e - 1
inside (Some AnyOf) e x = x.end - e - 1

-- A form, with the name or the number of records inside a list.
abbrev pub form_text : Records → Option Form → ℕ → Expr → List ℕ → List ℕ
form_text R None e x out = out
form_text R (Some UnitForm) e x out = out ++ codes "unit"
form_text R (Some True) e x out = out ++ codes "true"
form_text R (Some Opaque) e x out = out ++ codes "opaque"
form_text R (Some False) e x out = out ++ codes "false"
form_text R (Some NameForm) e x out = labelled R x.label (out ++ codes "name ")
form_text R (Some AllOf) e x out = numbered (x.end - e - 1) (out ++ codes "all of ")
form_text R (Some AnyOf) e x out = numbered (x.end - e - 1) (out ++ codes "any of ")

-- An expression without what is inside it.
unfoldable pub head_text : Records → ℕ → Expr → List ℕ → List ℕ
head_text R e x out = positioned x.at (form_text R (form_of x.form) e x out ++ codes "@")

abbrev pub head_if : Records → ℕ → Option Expr → List ℕ → List ℕ
head_if R e None out = out
head_if R e (Some x) out = head_text R e x out

-- So many records from one on, a blank before each.
unfoldable pub items_text : Records → ℕ → ℕ → List ℕ → List ℕ
items_text R zero e out = out
items_text R (suc k) e out = items_text R k (e + 1) (head_if R e (expr_in R e) (out ++ codes " "))

-- The first eight records inside a list, in brackets.
abbrev pub list_text : Records → ℕ → ℕ → List ℕ → List ℕ
list_text R n e out = cond (n == 0) out (cond (nat_lt 8 n) (items_text R 8 (e + 1) (out ++ codes " [") ++ codes " .. ]") (items_text R n (e + 1) (out ++ codes " [") ++ codes " ]"))

unfoldable pub expr_text : Records → ℕ → Option Expr → List ℕ → List ℕ
expr_text R e None out = out
expr_text R e (Some x) out = list_text R (inside (form_of x.form) e x) e (head_text R e x out)

-- ## Statements

abbrev pub kind_text : Kind → ℕ → List ℕ
kind_text Noop flags = codes "noop"
kind_text Var flags = cond (flagged 1 flags) (codes "const") (codes "let")
kind_text Exp flags = codes "expr"
kind_text FnCall flags = codes "call"
kind_text Assignment flags = codes "assign"
kind_text Block flags = codes "block"
kind_text TryCatch flags = codes "try"
kind_text For flags = codes "for"
kind_text If flags = codes "if"
kind_text While flags = codes "while"
kind_text Do flags = cond (flagged 4 flags) (codes "do until") (codes "do while")
kind_text BreakLoop flags = cond (flagged 8 flags) (codes "break") (codes "continue")
kind_text Return flags = cond (flagged 8 flags) (codes "throw") (codes "return")

abbrev pub is_variable : Option Target → Bool
is_variable None = false
is_variable (Some Variable) = true
is_variable (Some Access) = false
is_variable (Some Other) = false

-- Does a statement name something?
abbrev pub names : Kind → Node → Bool
names Noop n = false
names Var n = true
names Exp n = false
names FnCall n = true
names Assignment n = is_variable (target_of n.target)
names Block n = false
names TryCatch n = not (n.label == 0)
names For n = true
names If n = false
names While n = false
names Do n = false
names BreakLoop n = false
names Return n = false

-- May it have an expression?
abbrev pub values : Kind → Bool
values Noop = false
values Var = true
values Exp = true
values FnCall = false
values Assignment = true
values Block = false
values TryCatch = false
values For = true
values If = true
values While = true
values Do = true
values BreakLoop = true
values Return = true

unfoldable pub name_text : Records → Kind → Node → List ℕ → List ℕ
name_text R k n out = cond (names k n) (labelled R n.label (out ++ codes " ")) out

-- An operator by its name, or the plain sign.
abbrev pub sign_text : Records → Option ℕ → List ℕ → List ℕ
sign_text R None out = out ++ codes "="
sign_text R (Some l) out = labelled R l out

-- The operator of an assignment to a variable.
abbrev pub operator_in : Records → Node → Option ℕ
operator_in R n = cond (n.operator == 0) None (cond (is_variable (target_of n.target)) (compound_in R n.operator) None)

-- What stands between the name and the expression.
unfoldable pub link_text : Records → Kind → Node → List ℕ → List ℕ
link_text R Noop n out = out
link_text R Var n out = out ++ codes " ="
link_text R Exp n out = out
link_text R FnCall n out = out
link_text R Assignment n out = sign_text R (operator_in R n) (out ++ codes " ")
link_text R Block n out = out
link_text R TryCatch n out = out
link_text R For n out = out ++ codes " in"
link_text R If n out = out
link_text R While n out = out
link_text R Do n out = out
link_text R BreakLoop n out = out
link_text R Return n out = out

unfoldable pub value_text : Records → Kind → Node → List ℕ → List ℕ
value_text R k n out = cond (values k) (cond (n.expr == 0) out (expr_text R n.expr (expr_in R n.expr) (out ++ codes " "))) out

-- A statement without its blocks.
unfoldable pub statement_text : Records → Option Kind → Node → List ℕ → List ℕ
statement_text R None n out = out
statement_text R (Some k) n out = positioned n.at (value_text R k n (link_text R k n (name_text R k n (out ++ kind_text k n.flags))) ++ codes " @") ++ newline

-- ## Blocks

-- The statements around that go on at a place.
abbrev pub still_around : ℕ → List Node → List Node
still_around i around = take (prefix_len (λ n. ltb i n.end) around) around

abbrev pub branch_words : Option Kind → List ℕ
branch_words None = codes "else"
branch_words (Some Noop) = codes "else"
branch_words (Some Var) = codes "else"
branch_words (Some Exp) = codes "else"
branch_words (Some FnCall) = codes "else"
branch_words (Some Assignment) = codes "else"
branch_words (Some Block) = codes "else"
branch_words (Some TryCatch) = codes "catch"
branch_words (Some For) = codes "else"
branch_words (Some If) = codes "else"
branch_words (Some While) = codes "else"
branch_words (Some Do) = codes "else"
branch_words (Some BreakLoop) = codes "else"
branch_words (Some Return) = codes "else"

-- The innermost statement around.
abbrev pub innermost : List Node → Node
innermost around = slice_index_or around (length around - 1) no_node

-- The mark where its branch begins.
unfoldable pub branch_text : ℕ → List Node → List ℕ → List ℕ
branch_text i around out =
    cond (length around == 0) out
    (cond ((innermost around).mid == i) ((indented (length around) out ++ branch_words (kind_of (innermost around).kind)) ++ newline) out)

-- A statement, where these are still around it.
unfoldable pub line_text : Records → ℕ → Node → List Node → List ℕ → List ℕ
line_text R i n around out = statement_text R (kind_of n.kind) n (indented (length around + 1) (branch_text i around out))

-- One that has blocks is around what follows.
abbrev pub around_next : ℕ → Node → List Node → List Node
around_next i n around = cond (nat_lt (i + 1) n.end) (around ++ n ∷ []) around

-- The statements from a place on.
unfoldable pub outline_from : Records → ℕ → List Node → List Node → List ℕ → List ℕ
outline_from R i [] around out = out
outline_from R i (n ∷ ns) around out = outline_from R (i + 1) ns (around_next i n (still_around i around)) (line_text R i n (still_around i around) out)

unfoldable pub outline_text : Records → List ℕ → List ℕ
outline_text R out = outline_from R 0 R.nodes [] out
