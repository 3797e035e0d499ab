-- Going through statements, one at a time.
use Rattle.std.proofs.Common.{◌≡◌, ℕ, suc, ◌+◌, ◌-◌, ◌<◌, ◌≤◌, Bool, true, cond, List, ◌∷◌, length, Some, Option as Maybe, Ok, Err, Result, sym, refl, ap, ◌∙◌, arith}
use mathlib.Core.Option.{Option, none, some}
use Rattle.records.specs.declared.kinds.Kind.{Kind}
use Rattle.records.specs.declared.nest.Open.{Open}
use Rattle.records.specs.Tree.{Records, node_at}
use Rattle.records.specs.Meanings.{kind_of, known, has_body}
use Rattle.records.specs.Checks.{first, node_fault, fault_inside, closed, limit_of, opened, walk, statement_fault}
use Rattle.std.specs.Result.{IsOk}
use Rattle.stack64.specs.declared.stack.NoPlace.{NoPlace}
use Rattle.stack64.specs.Moves.{Pushed}
use Rattle.records.proofs.Statements.{fine}

walk_step : (R : Records) (n i : ℕ) (os : List Open) → i < n
    → walk R (n - i) i os ≡ first (node_fault R i (limit_of (length R.nodes) (closed i os)) (length (closed i os))) (walk R (n - (i + 1)) (i + 1) (opened R i (closed i os)))
unfolding walk
walk_step R n i os l = let e : n - i ≡ suc (n - (i + 1)) = omega arith in rw e refl

module _ (R : Records) (i : ℕ) (os ps : List Open) (so_far : statement_fault R ≡ walk R (length R.nodes - i) i os) (within : i < length R.nodes) (shut : ps ≡ closed i os) where
  -- the next statement, in the words of the code
  one : statement_fault R ≡ first (fault_inside R (node_at R i) i ps) (walk R (length R.nodes - (i + 1)) (i + 1) (opened R i ps))
  one =
      so_far ∙ walk_step R (length R.nodes) i os within
      ∙ ap (λ (qs : List Open). first (fault_inside R (node_at R i) i qs) (walk R (length R.nodes - (i + 1)) (i + 1) (opened R i qs))) (sym shut)

  pub walk-stops : (m : ℕ) → some m ≡ fault_inside R (node_at R i) i ps → some m ≡ statement_fault R
  walk-stops m e = sym (one ∙ ap (λ (x : Option ℕ). first x (walk R (length R.nodes - (i + 1)) (i + 1) (opened R i ps))) (sym e))

  pub walk-on : none ≡ fault_inside R (node_at R i) i ps → (qs : List Open) → qs ≡ opened R i ps → statement_fault R ≡ walk R (length R.nodes - (i + 1)) (i + 1) qs
  walk-on e qs q =
      one ∙ ap (λ (x : Option ℕ). first x (walk R (length R.nodes - (i + 1)) (i + 1) (opened R i ps))) (sym e)
      ∙ ap (λ (zs : List Open). walk R (length R.nodes - (i + 1)) (i + 1) zs) (sym q)

pub walk_ends : (R : Records) (i : ℕ) (os : List Open) → statement_fault R ≡ walk R (length R.nodes - i) i os → length R.nodes ≤ i → none ≡ statement_fault R
unfolding walk
walk_ends R i os e l = let z : length R.nodes - i ≡ 0 = omega arith in sym (e ∙ ap (λ (k : ℕ). walk R k i os) z)

-- A statement of a known kind.
pub opens : (R : Records) (i : ℕ) (k : Kind) (b : Bool) → kind_of (node_at R i).kind ≡ Some k → b ≡ has_body k → (os : List Open)
    → cond b (record { limit = (node_at R i).mid; end = (node_at R i).end } ∷ os) os ≡ opened R i os
opens R i k b e h os =
    ap (λ (c : Bool). cond {A = List Open} c (record { limit = (node_at R i).mid; end = (node_at R i).end } ∷ os) os) (h ∙ sym (ap (λ (m : Maybe Kind). known m has_body) e))

-- There is room for it.
pub room : (R : Records) (i : ℕ) (os : List Open) (k : Kind) → none ≡ fault_inside R (node_at R i) i os → kind_of (node_at R i).kind ≡ Some k → true ≡ has_body k → length os < 64
room R i os k e q h = (fine R i (limit_of (length R.nodes) os) (length os) (sym e)).shallow (ap (λ (m : Maybe Kind). known m has_body) q ∙ sym h)

pub pushed : (xs ys : List Open) (x : Open) (r : Result (Unit {0}) NoPlace) → length xs < 64 → Pushed xs x r ys → IsOk r × (ys ≡ x ∷ xs)
pushed xs ys x (Ok u) l p = (refl, p.1)
pushed xs ys x (Err e) l p = absurd (omega arith)
