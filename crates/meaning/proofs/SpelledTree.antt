-- The tree that is read from records: its names are spelled by their labels, and it nests no `for` and `try` deeper
-- than its statements nest.
use Rattle.std.proofs.Common.{ℕ, zero, suc, ◌+◌, ◌≤◌, Bool, true, false, cond, eqb, ltb, Some, None, refl, arith}
use Rattle.records.specs.Tree.{Records, Head, Head.noop, Head.var, Head.expr, Head.call, Head.assign, Head.other, Head.block, Head.try, Head.for, Head.if, Head.while, Head.do_loop, Head.break, Head.continue, Head.return, Head.throw, Tree.node, Forest.nil, Forest.more, Stmt, Block, name_of, oper_of, if_any, node_at, head_of, flagged}
use Rattle.records.specs.Preorder.{grown, forest_from}
use Rattle.records.specs.Accepts.{statements, tree_of, height, height_s}
use Rattle.meaning.proofs.Place.{deep, deep_list}
use Rattle.meaning.proofs.Lowered.{SpelledAny, SpelledOper, SpelledHead, Spelled}

-- What holds both ways holds of a choice.
both : {A : Type 0} (P : A → Type 0) (b : Bool) (x y : A) → P x → P y → P (cond b x y)
both P true x y p q = p
both P false x y p q = q

-- ## Names

oper-any : (R : Records) (o : ℕ) → SpelledOper R (if_any (oper_of R) o)
oper-any R o = both (SpelledOper R) (eqb o 0) None (Some (oper_of R o)) tt (refl, refl)

name-any : (R : Records) (l : ℕ) → SpelledAny R (if_any (name_of R) l)
name-any R l = both (SpelledAny R) (eqb l 0) None (Some (name_of R l)) tt refl

spelled-head : (R : Records) (i : ℕ) → SpelledHead R (head_of R i)
spelled-head R i =
    let n = node_at R i in
    let P : Head → Type 0 = SpelledHead R in
    both P (eqb n.kind 2) _ _ refl
    (both P (eqb n.kind 3) _ _ tt
    (both P (eqb n.kind 4) _ _ refl
    (both P (eqb n.kind 5) _ _ (both P (eqb n.target 1) _ _ (refl, oper-any R n.operator) tt)
    (both P (eqb n.kind 6) _ _ tt
    (both P (eqb n.kind 7) _ _ (name-any R n.label)
    (both P (eqb n.kind 8) _ _ refl
    (both P (eqb n.kind 9) _ _ tt
    (both P (eqb n.kind 10) _ _ tt
    (both P (eqb n.kind 11) _ _ tt
    (both P (eqb n.kind 12) _ _ (both P (flagged 8 n.flags) _ _ tt tt)
    (both P (eqb n.kind 13) _ _ (both P (flagged 8 n.flags) _ _ tt tt) tt)))))))))))

spelled-grown : (R : Records) (k a b : ℕ) → Spelled R (grown (statements R) k a b)
unfolding grown
spelled-grown R zero a b = tt
spelled-grown R (suc k) a b =
    both (Spelled R) (ltb a b) _ nil ((spelled-head R a, spelled-grown R k (a + 1) (node_at R a).mid, spelled-grown R k (node_at R a).mid (node_at R a).end), spelled-grown R k (node_at R a).end b) tt

pub spelled-tree : (R : Records) → Spelled R (tree_of R)
unfolding forest_from
spelled-tree R = spelled-grown R (statements R).size 0 (statements R).size

-- ## Nesting

mutual
  deep-height_s : (s : Stmt) → deep s ≤ height_s s
  deep-height_s (node noop B C) = let p = deep-height B in let q = deep-height C in omega arith
  deep-height_s (node (var k x e r) B C) = let p = deep-height B in let q = deep-height C in omega arith
  deep-height_s (node (expr e) B C) = let p = deep-height B in let q = deep-height C in omega arith
  deep-height_s (node (call x i) B C) = let p = deep-height B in let q = deep-height C in omega arith
  deep-height_s (node (assign x e o p' q') B C) = let p = deep-height B in let q = deep-height C in omega arith
  deep-height_s (node (other i) B C) = let p = deep-height B in let q = deep-height C in omega arith
  deep-height_s (node block B C) = let p = deep-height B in let q = deep-height C in omega arith
  deep-height_s (node (try x m) B C) = let p = deep-height B in let q = deep-height C in omega arith
  deep-height_s (node (for x e m) B C) = let p = deep-height B in let q = deep-height C in omega arith
  deep-height_s (node (if e) B C) = let p = deep-height B in let q = deep-height C in omega arith
  deep-height_s (node (while e m) B C) = let p = deep-height B in let q = deep-height C in omega arith
  deep-height_s (node (do_loop u e m) B C) = let p = deep-height B in let q = deep-height C in omega arith
  deep-height_s (node (break e) B C) = let p = deep-height B in let q = deep-height C in omega arith
  deep-height_s (node continue B C) = let p = deep-height B in let q = deep-height C in omega arith
  deep-height_s (node (return e) B C) = let p = deep-height B in let q = deep-height C in omega arith
  deep-height_s (node (throw e m) B C) = let p = deep-height B in let q = deep-height C in omega arith

  pub deep-height : (B : Block) → deep_list B ≤ height B
  deep-height nil = omega arith
  deep-height (more s b) = let p = deep-height_s s in let q = deep-height b in omega arith
