-- The two writers of the base: Whole asks every expression whole, Written follows the forms.
use Rattle.std.specs.Prelude.{ℕ, zero, suc, ◌+◌, Bool, true, false, cond, ◌&&◌, List, [], ◌∷◌, ◌++◌, length, Some, None, Option, ◌==◌, nat_le, nat_lt}
use Rattle.records.specs.Tree.{Records, expr_at, name_of, nowhere}
use Rattle.code.specs.declared.ops.Op.{Op}
use Rattle.code.specs.declared.ops.Op.TheVariants.{Unit as UnitOp, Bool as BoolOp, LoadNamed, Jump, JumpIfTrue, JumpIfFalse, EvalExpr}
use Rattle.code.specs.declared.ops.Instr.{Instr}
use Rattle.meaning.specs.Reading.{Bytes, Reading, Reading.unit, Reading.yes, Reading.opaque, Reading.no, Reading.name, Reading.all, Reading.any, Items, Items.end, Items.item}
use Rattle.meaning.specs.Fed.{Tables, number_of}
use Rattle.meaning.specs.Writer.{Writer}

-- Is e the number of an expression record?
abbrev pub is_record : ℕ → ℕ → Bool
is_record exprs e = nat_lt 0 e && nat_lt e exprs

-- An operation without a position.
abbrev pub plain : Op → Instr
plain o = record { op = o; at = nowhere }

-- ## Whole

-- One question for every expression.
abbrev pub whole : Records → Writer
whole R = record { known = is_record (length R.exprs); reading = opaque; segment = λ e. plain (EvalExpr e) ∷ []; longest = 1; rise = 1 }

-- ## Written

-- A name is read if the table has it; otherwise the expression is opaque.
abbrev pub name_reading : Option ℕ → Bytes → ℕ → Reading
name_reading None b e = opaque e
name_reading (Some x) b e = name b

-- The reading of an expression of a form, by its items' readings.
abbrev pub form_reading : Tables → Records → ℕ → Items → Reading
form_reading T R e is =
    let f = (expr_at R e).form in
    let b = (name_of R (expr_at R e).label).bytes in
    cond (f == 1) unit
    (cond (f == 2) yes
    (cond (f == 4) no
    (cond (f == 5) (name_reading (number_of T b) b e)
    (cond (f == 6) (all is)
    (cond (f == 7) (any is)
    (opaque e))))))

-- The items from a up to before b, in at most so many steps; an item's own items lie inside it.
unfoldable pub items_from : Tables → Records → ℕ → ℕ → ℕ → Items
items_from T R zero a b = end
items_from T R (suc k) a b =
    cond (nat_lt a b) (item (expr_at R a).at (form_reading T R a (items_from T R k (suc a) (expr_at R a).end)) (items_from T R k (expr_at R a).end b)) end

unfoldable pub written_reading : Tables → Records → ℕ → Reading
written_reading T R e = form_reading T R e (items_from T R (length R.exprs) (suc e) (expr_at R e).end)

-- How many operations a reading takes.
abbrev mutual
  pub size : Reading → ℕ
  size unit = 1
  size yes = 1
  size (opaque e) = 1
  size no = 1
  size (name b) = 1
  size (all is) = suc (suc (suc (size_items is)))
  size (any is) = suc (suc (suc (size_items is)))

  pub size_items : Items → ℕ
  size_items end = 0
  size_items (item p r is) = size r + suc (size_items is)

abbrev pub load : Option ℕ → Instr
load None = plain UnitOp
load (Some x) = plain (LoadNamed x)

-- The segment of a reading that begins at place a of its segment. All of: each item, then at the item's position a
-- jump to F where it is false; true, a jump past; F is false. Any of: the mirror image.
abbrev mutual
  pub written : Tables → Reading → ℕ → List Instr
  written T unit a = plain UnitOp ∷ []
  written T yes a = plain (BoolOp true) ∷ []
  written T (opaque e) a = plain (EvalExpr e) ∷ []
  written T no a = plain (BoolOp false) ∷ []
  written T (name b) a = load (number_of T b) ∷ []
  written T (all is) a =
      let z = size_items is + a in
      written_items T is JumpIfFalse (suc (suc z)) a ++ (plain (BoolOp true) ∷ plain (Jump (suc (suc (suc z)))) ∷ plain (BoolOp false) ∷ [])
  written T (any is) a =
      let z = size_items is + a in
      written_items T is JumpIfTrue (suc (suc z)) a ++ (plain (BoolOp false) ∷ plain (Jump (suc (suc (suc z)))) ∷ plain (BoolOp true) ∷ [])

  pub written_items : Tables → Items → (ℕ → Op) → ℕ → ℕ → List Instr
  written_items T end jump f a = []
  written_items T (item p r is) jump f a = written T r a ++ (record { op = jump f; at = p } ∷ written_items T is jump f (suc (size r + a)))

-- It knows the expressions whose segments fit in 64 operations; it never has more than one value of its own.
abbrev pub writer : Tables → Records → Writer
writer T R =
    record { known = λ e. is_record (length R.exprs) e && nat_le (size (written_reading T R e)) 64; reading = written_reading T R; segment = λ e. written T (written_reading T R e) 0; longest = 64; rise = 1 }
