-- When records are refused, and with which number.
use Rattle.std.specs.Prelude.{ℕ, zero, suc, ◌+◌, ◌-◌, Bool, true, false, cond, not, ◌&&◌, ◌||◌, List, [], ◌∷◌, drop, length, Some, None, Ok, Err, Option as Maybe, Result, ◌==◌, nat_le, nat_lt}
use Rattle.std.specs.List.{list_all, enumerate_from}
use Rattle.std.proofs.Math.Option.{Option, none, some}
use Rattle.records.specs.declared.refusals.Refusal.{Refusal}
use Rattle.records.specs.declared.kinds.Kind.{Kind}
use Rattle.records.specs.declared.kinds.Kind.TheVariants.{Noop, Var, Expr, FnCall, Assignment, Block, TryCatch, For, If, While, Do, BreakLoop, Return}
use Rattle.records.specs.declared.kinds.Form.{Form}
use Rattle.records.specs.declared.kinds.Form.TheVariants.{Unit as UnitForm, True, Opaque, False, Name, AllOf, AnyOf}
use Rattle.records.specs.declared.kinds.Target.{Target}
use Rattle.records.specs.declared.kinds.Target.TheVariants.{Variable, Access, Other}
use Rattle.records.specs.declared.types.Label.{Label}
use Rattle.records.specs.declared.types.Operator.{Operator}
use Rattle.records.specs.declared.types.Expr.{Expr as ExprRecord}
use Rattle.records.specs.declared.types.Node.{Node}
use Rattle.records.specs.declared.nest.Open.{Open}
use Rattle.records.specs.Numbers.{number_of}
use Rattle.records.specs.Meanings.{kind_of, form_of, target_of, known, has_body, has_branch, is_list}
use Rattle.records.specs.Tree.{Records, label_at, expr_at, operator_at, node_at, flagged}

-- The number of a refusal, if it is one.
abbrev pub answered : {A : Type 0} → Result A Refusal → Option ℕ
answered (Ok x) = none
answered (Err e) = some (number_of e)

-- The first of two numbers that is there.
abbrev pub first : Option ℕ → Option ℕ → Option ℕ
first none other = other
first (some n) other = some n

-- A reference names a record of a table of so many: 0 is absent.
abbrev pub names : ℕ → ℕ → Bool
names count r = not (r == 0) && nat_lt r count

-- A reference names a record or is absent.
abbrev pub may_name : ℕ → ℕ → Bool
may_name count r = r == 0 || nat_lt r count

-- A test passes at so many places from i on.
unfoldable pub every : (ℕ → Bool) → ℕ → ℕ → Bool
every P zero i = true
every P (suc k) i = P i && every P k (i + 1)

-- 11 unless a test passes at each record of a table of so many, the unused record 0 aside.
abbrev pub each_from1 : (ℕ → Bool) → ℕ → Option ℕ
each_from1 P count = cond (every P (count - 1) 1) none (some 11)

-- The same of a test of a record with its place.
abbrev pub each_fault : {X : Type 0} → (ℕ × X → Bool) → List X → Option ℕ
each_fault test xs = cond (list_all test (drop 1 (enumerate_from 0 xs))) none (some 11)

-- ## Sizes

abbrev pub too_large : Records → Bool
too_large R =
    nat_lt 1048576 (length R.nodes) || nat_lt 1048576 (length R.exprs) || nat_lt 1048576 (length R.text)
    || nat_lt 65536 (length R.labels) || nat_lt 4096 (length R.operators) || R.limit == 0 || nat_lt 65535 R.limit

-- ## Labels and operators

-- A label lies within a text of so many bytes.
abbrev pub label_fits : ℕ → Label → Bool
label_fits bytes l = nat_le (l.start + l.length) bytes

abbrev pub label_law : Records → ℕ → Bool
label_law R i = label_fits (length R.text) (label_at R i)

-- Both tokens of an operator have labels, of so many.
abbrev pub both_named : ℕ → Operator → Bool
both_named labels o = names labels o.compound.label && names labels o.binary.label

abbrev pub operator_law : Records → ℕ → Bool
operator_law R i = both_named (length R.labels) (operator_at R i)

-- ## Expressions

-- Hopping from record to record, each time to the end of the one that one stands on, leads from a to b and never
-- past it, in at most so many hops.
unfoldable pub tiles : Records → ℕ → ℕ → ℕ → Bool
tiles R zero a b = a == b
tiles R (suc k) a b = a == b || (nat_lt a (expr_at R a).end && (nat_le (expr_at R a).end b && tiles R k (expr_at R a).end b))

-- What a form asks of its record: a name has a label; a list has items, other forms none.
abbrev pub form_law : Form → Records → ExprRecord → ℕ → Bool
form_law UnitForm R e i = e.end == i + 1
form_law True R e i = e.end == i + 1
form_law Opaque R e i = e.end == i + 1
form_law False R e i = e.end == i + 1
form_law Name R e i = names (length R.labels) e.label && e.end == i + 1
form_law AllOf R e i = nat_lt (i + 1) e.end
form_law AnyOf R e i = nat_lt (i + 1) e.end

-- An expression's own fields are lawful.
abbrev pub expr_law : Records → ℕ → Bool
expr_law R i = known (form_of (expr_at R i).form) (λ f. form_law f R (expr_at R i) i)

-- An expression's fields are lawful, and if it is a list, its items tile it, inside the table.
abbrev pub expr_stands : Records → ExprRecord → ℕ → Bool
expr_stands R e i =
    known (form_of e.form) (λ f. form_law f R e i
    && (not (is_list f) || (nat_le e.end (length R.exprs) && tiles R (e.end - (i + 1)) (i + 1) e.end)))

abbrev pub expr_sound : Records → ℕ → Bool
expr_sound R i = expr_stands R (expr_at R i) i

-- ## Statements

-- What the target of an assignment asks for.
abbrev pub target_law : Target → Records → Node → Bool
target_law Variable R n = names (length R.labels) n.label && may_name (length R.operators) n.operator
target_law Access R n = true
target_law Other R n = true

-- The references that a kind asks for.
abbrev pub field_law : Kind → Records → Node → Bool
field_law Noop R n = true
field_law Var R n = names (length R.exprs) n.expr && names (length R.labels) n.label
field_law Expr R n = names (length R.exprs) n.expr
field_law FnCall R n = names (length R.labels) n.label
field_law Assignment R n = names (length R.exprs) n.expr && known (target_of n.target) (λ t. target_law t R n)
field_law Block R n = true
field_law TryCatch R n = may_name (length R.labels) n.label
field_law For R n =
    names (length R.exprs) n.expr && (names (length R.labels) n.label && may_name (length R.labels) n.counter)
field_law If R n = names (length R.exprs) n.expr
field_law While R n = names (length R.exprs) n.expr
field_law Do R n = names (length R.exprs) n.expr
field_law BreakLoop R n = may_name (length R.exprs) n.expr
field_law Return R n = may_name (length R.exprs) n.expr

-- Without a branch, mid is end; without blocks, both are the next record.
abbrev pub shape_law : Kind → Node → ℕ → Bool
shape_law k n i = cond (has_body k) (has_branch k || n.mid == n.end) (n.mid == i + 1 && n.end == i + 1)

-- Body and branch lie after the statement, one after the other, inside the block that the statement stands in.
abbrev pub range_law : Kind → Node → ℕ → ℕ → Bool
range_law k n i limit = nat_lt i n.mid && (nat_le n.mid n.end && (nat_le n.end limit && shape_law k n i))

-- Uses of a kind that are left out: an exported variable, an assignment by access, a counter, a continue with a value.
abbrev pub left_out : Kind → Node → Bool
left_out Noop n = false
left_out Var n = flagged 2 n.flags
left_out Expr n = false
left_out FnCall n = false
left_out Assignment n = n.target == 2
left_out Block n = false
left_out TryCatch n = false
left_out For n = not (n.counter == 0)
left_out If n = false
left_out While n = false
left_out Do n = false
left_out BreakLoop n = not (n.expr == 0) && not (flagged 8 n.flags)
left_out Return n = false

-- The statement at i has blocks.
abbrev pub compound : Records → ℕ → Bool
compound R i = known (kind_of (node_at R i).kind) has_body

-- A statement's own fields are lawful, and it is not left out.
abbrev pub node_law : Records → ℕ → Bool
node_law R i =
    known (kind_of (node_at R i).kind) (λ k. field_law k R (node_at R i) && (shape_law k (node_at R i) i && not (left_out k (node_at R i))))

-- The fault of a statement of a kind at i, in a block that ends at a limit, with so many statements around it.
abbrev pub kind_fault : Maybe Kind → Records → Node → ℕ → ℕ → ℕ → Option ℕ
kind_fault None R n i limit depth = some 11
kind_fault (Some k) R n i limit depth =
    cond (field_law k R n && range_law k n i limit)
    (cond (left_out k n) (some 12)
    (cond (has_body k && nat_le 64 depth) (some 13)
    none))
    (some 11)

abbrev pub node_fault : Records → ℕ → ℕ → ℕ → Option ℕ
node_fault R i limit depth = kind_fault (kind_of (node_at R i).kind) R (node_at R i) i limit depth

-- The statements that are still open at i, innermost first: a block that is full is followed by the branch, or closed.
abbrev pub closed : ℕ → List Open → List Open
closed i [] = []
closed i (o ∷ os) =
    cond (o.limit == i) (cond (o.end == i) (closed i os) (record { limit = o.end; end = o.end } ∷ os)) (o ∷ os)

-- The end of the block that is being filled, of a table of so many records.
abbrev pub limit_of : ℕ → List Open → ℕ
limit_of count [] = count
limit_of count (o ∷ os) = o.limit

-- The fault of a statement at i, inside the open ones.
abbrev pub fault_inside : Records → Node → ℕ → List Open → Option ℕ
fault_inside R n i os = kind_fault (kind_of n.kind) R n i (limit_of (length R.nodes) os) (length os)

-- A statement that has blocks is open after it was met.
abbrev pub opened : Records → ℕ → List Open → List Open
opened R i os = cond (compound R i) (record { limit = (node_at R i).mid; end = (node_at R i).end } ∷ os) os

-- The first fault of so many statements from i on, where these are open.
unfoldable pub walk : Records → ℕ → ℕ → List Open → Option ℕ
walk R zero i os = none
walk R (suc k) i os =
    let open_at = closed i os in
    first (node_fault R i (limit_of (length R.nodes) open_at) (length open_at)) (walk R k (i + 1) (opened R i open_at))

-- ## All of them

abbrev pub size_fault : Records → Option ℕ
size_fault R = cond (too_large R) (some 10) none

abbrev pub label_fault : Records → Option ℕ
label_fault R = each_from1 (label_law R) (length R.labels)

abbrev pub expr_fault : Records → Option ℕ
expr_fault R = each_from1 (expr_sound R) (length R.exprs)

abbrev pub operator_fault : Records → Option ℕ
operator_fault R = each_from1 (operator_law R) (length R.operators)

abbrev pub statement_fault : Records → Option ℕ
statement_fault R = walk R (length R.nodes) 0 []

-- The number with which records are refused, if they are: the first fault in this order.
abbrev pub checked : Records → Option ℕ
checked R = first (size_fault R) (first (label_fault R) (first (expr_fault R) (first (operator_fault R) (statement_fault R))))
