-- The checks' fault and setting's fault.
use Rattle.std.proofs.Common.{◌≡◌, ℕ, ◌-◌, Bool, true, false, cond, not, ◌&&◌, ◌||◌, ltb, leb, List, length, Some, Option, sym, refl, ap, ◌∙◌, inl, inr, le-ltb, lt-ltb, le-leb}
use mathlib.Core.Option.{Option as Maybe, none, some}
use borrow.Author.Tests.{lt-leb}
use Rattle.std.proofs.lemmas.Bool.{cases_lt}
use Rattle.records.specs.Tree.{Records}
use Rattle.records.specs.Checks.{first, every, label_law, expr_sound}
use Rattle.code.specs.declared.ops.Instr.{Instr}
use Rattle.code.specs.declared.ops.Row.{Row}
use Rattle.meaning.specs.Writer.{Writer}
use Rattle.meaning.specs.SetCode.{targets_fine, rows_fine, set_too_large, write_faults, set_fault}
use Rattle.setting.specs.Checks.{check_fault}
use Rattle.setting.specs.Set.{fault}

-- A fault of the checks, else another.
abbrev joined : Maybe ℕ → Option ℕ → Option ℕ
joined none o = o
joined (some n) o = Some n

-- One order of tests or the other.
same-order : (n s l e t r q : Bool) (o : Option ℕ)
    → cond n (Some 10) (cond s (Some 10) (cond (l && e) (cond (t && r) (cond (not q) o (Some 23)) (Some 11)) (Some 11)))
    ≡ joined (first (cond (n || s) (some 10) none) (first (cond l none (some 11)) (first (cond e none (some 11)) (first (cond t none (some 11)) (first (cond r none (some 11)) (cond q (some 23) none)))))) o
same-order true s l e t r q o = refl
same-order false true l e t r q o = refl
same-order false false false e t r q o = refl
same-order false false true false t r q o = refl
same-order false false true true false r q o = refl
same-order false false true true true false q o = refl
same-order false false true true true true true o = refl
same-order false false true true true true false o = refl

not-ltb : (a b : ℕ) → leb a b ≡ not (ltb b a)
not-ltb a b = elim (cases_lt b a) [ inl h ↦ rw (lt-ltb b a h, lt-leb a b h) refl | inr h ↦ rw (le-ltb b a h, le-leb a b h) refl ]

module _ (R : Records) (names : List ℕ) (ops : List Instr) (rows : List Row) (room places : ℕ) where
  fault-is : (W : Writer) → fault W R names ops rows room places ≡ joined (check_fault R names ops rows room places) (write_faults W rows room ops)
  unfolding set_fault
  fault-is W =
      rw (not-ltb (length ops) places)
      (same-order (ltb 65536 (length names)) (set_too_large R (length ops) room) (every (label_law R) (length R.labels - 1) 1) (every (expr_sound R) (length R.exprs - 1) 1)
      (targets_fine (length ops) ops) (rows_fine (length R.exprs) rows) (ltb places (length ops)) (write_faults W rows room ops))

  -- What fails the checks is refused so; what passes them is refused by what is written.
  pub fails : (W : Writer) (n : ℕ) → some n ≡ check_fault R names ops rows room places → fault W R names ops rows room places ≡ Some n
  fails W n e = fault-is W ∙ ap (λ (m : Maybe ℕ). joined m (write_faults W rows room ops)) (sym e)

  pub passes : (W : Writer) → none ≡ check_fault R names ops rows room places → fault W R names ops rows room places ≡ write_faults W rows room ops
  passes W e = fault-is W ∙ ap (λ (m : Maybe ℕ). joined m (write_faults W rows room ops)) (sym e)
