-- Hopping from record to record.
use Rattle.std.proofs.Common.{◌≡◌, ℕ, zero, suc, ◌+◌, ◌-◌, ◌<◌, ◌≤◌, Bool, true, false, ◌&&◌, ◌||◌, eqb, ltb, leb, refl, ap, arith, ltb-true, le-ltb, lt-ltb, eq-eqb, ne_eqb, le-leb, leb-true}
use borrow.Author.Tests.{lt-leb}
use Rattle.records.specs.Tree.{Records, expr_at}
use Rattle.records.specs.Checks.{tiles}

-- more hops than enough change nothing
same : (R : Records) (j k a b : ℕ) → a ≤ b → b ≤ a + j → b ≤ a + k → tiles R j a b ≡ tiles R k a b
unfolding tiles
same R zero zero a b l p q = refl
same R zero (suc k) a b l p q = let e : a ≡ b = omega arith in rw (eq-eqb a b e) refl
same R (suc j) zero a b l p q = let e : a ≡ b = omega arith in rw (eq-eqb a b e) refl
same R (suc j) (suc k) a b l p q =
    ap (λ (t : Bool). eqb a b || t) (go (ltb a (expr_at R a).end) (leb (expr_at R a).end b) refl refl
    (λ u v. same R j k (expr_at R a).end b v (omega arith) (omega arith)))
  where
    go : (x y : Bool) → ltb a (expr_at R a).end ≡ x → leb (expr_at R a).end b ≡ y
        → (a < (expr_at R a).end → (expr_at R a).end ≤ b → tiles R j (expr_at R a).end b ≡ tiles R k (expr_at R a).end b)
        → (x && (y && tiles R j (expr_at R a).end b)) ≡ (x && (y && tiles R k (expr_at R a).end b))
    go false y u v f = refl
    go true false u v f = refl
    go true true u v f = f (ltb-true _ _ u) (leb-true _ _ v)

-- one hop; a hop that goes back or too far; no hop left
pub tiles-on : (R : Records) (a b : ℕ) → a < b → a < (expr_at R a).end → (expr_at R a).end ≤ b → tiles R (b - a) a b ≡ tiles R (b - (expr_at R a).end) (expr_at R a).end b
unfolding tiles
tiles-on R a b l u v =
    let e : b - a ≡ suc (b - (a + 1)) = omega arith in
    rw (e, ne_eqb a b (λ q. omega arith), lt-ltb a (expr_at R a).end u, le-leb (expr_at R a).end b v)
    (same R (b - (a + 1)) (b - (expr_at R a).end) (expr_at R a).end b v (omega arith) (omega arith))

pub tiles-back : (R : Records) (a b : ℕ) → a < b → (expr_at R a).end ≤ a → false ≡ tiles R (b - a) a b
unfolding tiles
tiles-back R a b l u =
    let e : b - a ≡ suc (b - (a + 1)) = omega arith in
    rw (e, ne_eqb a b (λ q. omega arith), le-ltb a (expr_at R a).end u) refl

pub tiles-past : (R : Records) (a b : ℕ) → a < b → b < (expr_at R a).end → false ≡ tiles R (b - a) a b
unfolding tiles
tiles-past R a b l u =
    let e : b - a ≡ suc (b - (a + 1)) = omega arith in
    rw (e, ne_eqb a b (λ q. omega arith), lt-ltb a (expr_at R a).end (omega arith), lt-leb (expr_at R a).end b u) refl

pub tiles-end : (R : Records) (a b : ℕ) → b ≤ a → eqb a b ≡ tiles R (b - a) a b
unfolding tiles
tiles-end R a b l = let e : b - a ≡ 0 = omega arith in rw e refl
