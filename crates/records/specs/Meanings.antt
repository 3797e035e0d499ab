-- What the numbers in records mean, and what a kind of statement may have.
use Rattle.std.specs.Prelude.{◌≡◌, ℕ, Bool, true, false, cond, Some, None, Option, Result, MatchResult, ◌==◌}
use Rattle.records.specs.declared.kinds.Kind.{Kind}
use Rattle.records.specs.declared.kinds.Kind.TheVariants.{Noop, Var, Expr, FnCall, Assignment, Block, TryCatch, For, If, While, Do, BreakLoop, Return}
use Rattle.records.specs.declared.kinds.Form.{Form}
use Rattle.records.specs.declared.kinds.Form.TheVariants.{Unit as UnitForm, True, Opaque, False, Name, AllOf, AnyOf}
use Rattle.records.specs.declared.kinds.Target.{Target}
use Rattle.records.specs.declared.kinds.Target.TheVariants.{Variable, Access, Other}
use Rattle.records.specs.declared.kinds.UnknownNumber.{UnknownNumber}

-- The kind of a statement.
abbrev pub kind_of : ℕ → Option Kind
kind_of n =
    cond (n == 1) (Some Noop)
    (cond (n == 2) (Some Var)
    (cond (n == 3) (Some Expr)
    (cond (n == 4) (Some FnCall)
    (cond (n == 5) (Some Assignment)
    (cond (n == 6) (Some Block)
    (cond (n == 7) (Some TryCatch)
    (cond (n == 8) (Some For)
    (cond (n == 9) (Some If)
    (cond (n == 10) (Some While)
    (cond (n == 11) (Some Do)
    (cond (n == 12) (Some BreakLoop)
    (cond (n == 13) (Some Return)
    None))))))))))))

-- The form of an expression.
abbrev pub form_of : ℕ → Option Form
form_of n =
    cond (n == 1) (Some UnitForm)
    (cond (n == 2) (Some True)
    (cond (n == 3) (Some Opaque)
    (cond (n == 4) (Some False)
    (cond (n == 5) (Some Name)
    (cond (n == 6) (Some AllOf)
    (cond (n == 7) (Some AnyOf)
    None))))))

-- What an assignment sets.
abbrev pub target_of : ℕ → Option Target
target_of n =
    cond (n == 1) (Some Variable)
    (cond (n == 2) (Some Access)
    (cond (n == 3) (Some Other)
    None))

-- What a number is read as: what it means, or the number itself where it means nothing.
abbrev pub Reads : {A : Type 0} → (ℕ → Option A) → ℕ → Result A UnknownNumber → Type 0
Reads meaning n r = MatchResult r (λ x. meaning n ≡ Some x) (λ e. (meaning n ≡ None) × (e.0 ≡ n))

-- Is a number known, and what it means such as P says?
abbrev pub known : {A : Type 0} → Option A → (A → Bool) → Bool
known None P = false
known (Some x) P = P x

-- Kinds with a body.
abbrev pub has_body : Kind → Bool
has_body Noop = false
has_body Var = false
has_body Expr = false
has_body FnCall = false
has_body Assignment = false
has_body Block = true
has_body TryCatch = true
has_body For = true
has_body If = true
has_body While = true
has_body Do = true
has_body BreakLoop = false
has_body Return = false

-- Kinds that may have a branch too.
abbrev pub has_branch : Kind → Bool
has_branch Noop = false
has_branch Var = false
has_branch Expr = false
has_branch FnCall = false
has_branch Assignment = false
has_branch Block = false
has_branch TryCatch = true
has_branch For = false
has_branch If = true
has_branch While = false
has_branch Do = false
has_branch BreakLoop = false
has_branch Return = false

-- Forms that are lists of items.
abbrev pub is_list : Form → Bool
is_list UnitForm = false
is_list True = false
is_list Opaque = false
is_list False = false
is_list Name = false
is_list AllOf = true
is_list AnyOf = true

-- The number that a kind has.
abbrev pub kind_number : Kind → ℕ
kind_number Noop = 1
kind_number Var = 2
kind_number Expr = 3
kind_number FnCall = 4
kind_number Assignment = 5
kind_number Block = 6
kind_number TryCatch = 7
kind_number For = 8
kind_number If = 9
kind_number While = 10
kind_number Do = 11
kind_number BreakLoop = 12
kind_number Return = 13
