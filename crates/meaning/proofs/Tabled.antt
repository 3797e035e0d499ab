-- What Written writes depends on the names of the tables alone.
use Rattle.std.proofs.Common.{◌≡◌, ℕ, zero, suc, ◌+◌, true, false, cond, ◌&&◌, ltb, leb, List, [], ◌∷◌, ◌++◌, length, refl, ap, ◌∙◌, ap₂, subst, arith}
use mathlib.Core.Option.{none}
use Rattle.records.specs.Tree.{Records, expr_at}
use Rattle.records.specs.Checks.{expr_sound, expr_fault}
use Rattle.records.proofs.Bools.{each_all}
use Rattle.records.proofs.Expressions.{sound-fine}
use Rattle.code.specs.declared.ops.Op.{Op}
use Rattle.code.specs.declared.ops.Op.TheVariants.{Bool as BoolOp, Jump, JumpIfTrue, JumpIfFalse}
use Rattle.code.specs.declared.ops.Instr.{Instr}
use Rattle.meaning.specs.Reading.{Bytes, Reading, Reading.unit, Reading.yes, Reading.opaque, Reading.no, Reading.name, Reading.all, Reading.any, Items, Items.end, Items.item}
use Rattle.meaning.specs.Fed.{Tables}
use Rattle.meaning.specs.Writer.{Writer, Lawful}
use Rattle.meaning.specs.Writers.{is_record, plain, form_reading, items_from, written_reading, size, size_items, written, written_items, writer}
use Rattle.meaning.proofs.WritersLaw.{written-lawful}

-- The tables with these names and no operators.
abbrev naming : List Bytes → Tables
naming names = record { names = names; signs = [] }

module _ (T : Tables) (R : Records) where
  same-items : (k a b : ℕ) → items_from T R k a b ≡ items_from (naming T.names) R k a b
  unfolding items_from
  same-items zero a b = refl
  same-items (suc k) a b =
      ap₂ (λ (y z : Items). cond (ltb a b) (item (expr_at R a).at (form_reading T R a y) z) end) (same-items k (suc a) (expr_at R a).end) (same-items k (expr_at R a).end b)

  same-reading : (e : ℕ) → written_reading T R e ≡ written_reading (naming T.names) R e
  unfolding written_reading
  same-reading e = ap (form_reading T R e) (same-items (length R.exprs) (suc e) (expr_at R e).end)

  mutual
    same-written : (r : Reading) (a : ℕ) → written T r a ≡ written (naming T.names) r a
    same-written unit a = refl
    same-written yes a = refl
    same-written (opaque e) a = refl
    same-written no a = refl
    same-written (name b) a = refl
    same-written (all is) a =
        let z = size_items is + a in
        ap (λ (xs : List Instr). xs ++ (plain (BoolOp true) ∷ plain (Jump (suc (suc (suc z)))) ∷ plain (BoolOp false) ∷ [])) (same-each is JumpIfFalse (suc (suc z)) a)
    same-written (any is) a =
        let z = size_items is + a in
        ap (λ (xs : List Instr). xs ++ (plain (BoolOp false) ∷ plain (Jump (suc (suc (suc z)))) ∷ plain (BoolOp true) ∷ [])) (same-each is JumpIfTrue (suc (suc z)) a)

    same-each : (is : Items) (jump : ℕ → Op) (f a : ℕ) → written_items T is jump f a ≡ written_items (naming T.names) is jump f a
    same-each end jump f a = refl
    same-each (item p r is) jump f a =
        ap₂ (λ (xs ys : List Instr). xs ++ (record { op = jump f; at = p } ∷ ys)) (same-written r a) (same-each is jump f (suc (size r + a)))

  same-segment : (e : ℕ) → written T (written_reading T R e) 0 ≡ written (naming T.names) (written_reading (naming T.names) R e) 0
  same-segment e = same-written (written_reading T R e) 0 ∙ ap (λ (r : Reading). written (naming T.names) r 0) (same-reading e)

  pub same_writer : writer T R ≡ writer (naming T.names) R
  same_writer =
      λ i. record { known = λ e. is_record (length R.exprs) e && leb (size (same-reading e i)) 64; reading = λ e. same-reading e i; segment = λ e. same-segment e i; longest = 64; rise = 1 }

-- So Written keeps the writers' law where it is given the names alone.
pub naming-lawful : (R : Records) (T : Tables) → expr_fault R ≡ none → Lawful T (length R.exprs) (writer (naming T.names) R)
naming-lawful R T passed =
    subst (λ (W : Writer). Lawful T (length R.exprs) W) (same_writer T R)
    (written-lawful T R (λ i lo hi. let f = sound-fine R i hi (each_all (expr_sound R) (length R.exprs) passed i lo hi) in (omega (arith, f.after), f.within)))
