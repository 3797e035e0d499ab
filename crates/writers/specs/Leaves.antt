-- The operations that Written puts.
use Rattle.std.specs.Prelude.{ℕ, ◌+◌, Bool, true, false, not, List, [], ◌∷◌, length, Some, None, Option}
use Rattle.records.specs.declared.kinds.Form.{Form}
use Rattle.records.specs.declared.kinds.Form.TheVariants.{Unit as UnitForm, True, Opaque, False, Name, AllOf, AnyOf}
use Rattle.records.specs.Tree.{Records, expr_at, name_of}
use Rattle.code.specs.declared.ops.Op.{Op}
use Rattle.code.specs.declared.ops.Op.TheVariants.{Unit as UnitOp, Bool as BoolOp, LoadNamed, Jump, EvalExpr}
use Rattle.code.specs.declared.ops.Instr.{Instr}
use Rattle.meaning.specs.Fed.{Tables, number_of}
use Rattle.meaning.specs.Reading.{Bytes, Items}
use Rattle.meaning.specs.Writers.{plain, items_from}

-- The tables with these names, whatever the operators.
abbrev pub naming : List Bytes → Tables
naming names = record { names = names; signs = [] }

-- A name is loaded by its number, or asked.
abbrev pub loaded : Option ℕ → ℕ → Op
loaded None e = EvalExpr e
loaded (Some x) e = LoadNamed x

-- The one operation of an expression that is no list.
abbrev pub leaf_of : Tables → Records → Option Form → ℕ → Op
leaf_of T R None e = EvalExpr e
leaf_of T R (Some UnitForm) e = UnitOp
leaf_of T R (Some True) e = BoolOp true
leaf_of T R (Some Opaque) e = EvalExpr e
leaf_of T R (Some False) e = BoolOp false
leaf_of T R (Some Name) e = loaded (number_of T (name_of R (expr_at R e).label).bytes) e
leaf_of T R (Some AllOf) e = EvalExpr e
leaf_of T R (Some AnyOf) e = EvalExpr e

-- What decides a list of a form, if it is a list: false an all of, true an any of.
abbrev pub decides : Option Form → Option Bool
decides None = None
decides (Some UnitForm) = None
decides (Some True) = None
decides (Some Opaque) = None
decides (Some False) = None
decides (Some Name) = None
decides (Some AllOf) = Some false
decides (Some AnyOf) = Some true

-- What ends a list from place a on: the value that no item decides, a jump past, the value that one does.
abbrev pub closing : Bool → ℕ → List Instr
closing on a = plain (BoolOp (not on)) ∷ plain (Jump (a + 3)) ∷ plain (BoolOp on) ∷ []

-- The items from record a up to before record b.
abbrev pub items_in : Tables → Records → ℕ → ℕ → Items
items_in T R a b = items_from T R (length R.exprs) a b
