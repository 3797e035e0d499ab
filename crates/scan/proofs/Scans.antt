-- The scan finds what the tree has.
use Rattle.std.proofs.Common.{◌≡◌, ℕ, ◌+◌, ◌<◌, ◌≤◌, Bool, true, false, cond, not, ◌&&◌, ◌||◌, eqb, Some, None, Option, sym, refl, ◌∙◌, subst, arith, eqb-true}
use borrow.Author.Tests.{clash}
use Rattle.std.proofs.Math.Bool.{or_assoc, or-false}
use Rattle.std.proofs.lemmas.Bool.{and_parts}
use Rattle.records.specs.declared.kinds.Kind.{Kind}
use Rattle.records.specs.declared.kinds.Kind.TheVariants.{Noop, Var, Expr, FnCall, Assignment, Block, TryCatch, For, If, While, Do, BreakLoop, Return}
use Rattle.records.specs.Meanings.{kind_of, known, has_body, has_branch}
use Rattle.records.specs.Tree.{Records, Head, Tree.node, Forest, Forest.nil, Forest.more, Stmt, node_at, flagged}
use Rattle.records.specs.Checks.{node_law, field_law, shape_law, left_out}
use Rattle.records.specs.Preorder.{TreeAt, ForestAt}
use Rattle.records.specs.Accepts.{statements}
use Rattle.records.proofs.Forests.{tree-lt, forest-le}
use Rattle.meaning.specs.Breaks.{breaks_head, breaks_s, has_break_value}
use Rattle.scan.specs.Scan.{is_loop, is_break, loop_node, valued_break}
use Rattle.scan.proofs.Heads.{head_as, head_as_lem}

-- Where the scan goes from a node.
abbrev pub next : Records → ℕ → ℕ
next R i = cond (loop_node (node_at R i)) (node_at R i).end (i + 1)

-- The scan from i up to before `to` finds r.
pub data Finds (R : Records) (to : ℕ) : ℕ → Bool → Type 0 where
  over : {i : ℕ} → to ≤ i → Finds R to i false
  hit : {i : ℕ} → i < to → valued_break (node_at R i) ≡ true → Finds R to i true
  pass : {i : ℕ} {r : Bool} → i < to → valued_break (node_at R i) ≡ false → Finds R to (next R i) r → Finds R to i r

module _ (R : Records) (to : ℕ) where
  pub found-hit : (i : ℕ) (r : Bool) → Finds R to i r → i < to → valued_break (node_at R i) ≡ true → true ≡ r
  found-hit i r (over l) h e = absurd (omega arith)
  found-hit i r (hit l f) h e = refl
  found-hit i r (pass l f p) h e = absurd (clash (sym f ∙ e))

  found-on : (i : ℕ) (r : Bool) → Finds R to i r → i < to → false ≡ valued_break (node_at R i) → Finds R to (next R i) r
  found-on i r (over l) h e = absurd (omega arith)
  found-on i r (hit l f) h e = absurd (clash (e ∙ f))
  found-on i r (pass l f p) h e = p

  -- A loop is passed over; from any other statement the scan goes to the next node.
  pub found-loop : (i : ℕ) (r : Bool) → Finds R to i r → i < to → false ≡ valued_break (node_at R i) → true ≡ loop_node (node_at R i) → Finds R to (node_at R i).end r
  found-loop i r p h e f = subst (λ (b : Bool). Finds R to (cond b (node_at R i).end (i + 1)) r) (sym f) (found-on i r p h e)

  pub found-next : (i : ℕ) (r : Bool) → Finds R to i r → i < to → false ≡ valued_break (node_at R i) → false ≡ loop_node (node_at R i) → Finds R to (i + 1) r
  found-next i r p h e f = subst (λ (b : Bool). Finds R to (cond b (node_at R i).end (i + 1)) r) (sym f) (found-on i r p h e)

  -- ## The tree's records

  -- What a lawful node is: of a known kind, its ranges as the kind wants them.
  record Kinded (i : ℕ) : Type 0 where
    kind : Kind
    is : kind_of (node_at R i).kind ≡ Some kind
    shape : shape_law kind (node_at R i) i ≡ true

  kinded : (i : ℕ) → node_law R i ≡ true → Kinded i
  kinded i e = go (kind_of (node_at R i).kind) refl e
    where
      go : (o : Option Kind) → kind_of (node_at R i).kind ≡ o → known o (λ k. field_law k R (node_at R i) && (shape_law k (node_at R i) i && not (left_out k (node_at R i)))) ≡ true → Kinded i
      go None q f = absurd (clash f)
      go (Some k) q f = record { kind = k; is = q; shape = (and_parts _ _ (and_parts _ _ f).1).0 }

  -- A statement without blocks ends at the next node.
  leaf-end : (i : ℕ) (k : Kind) → has_body k ≡ false → shape_law k (node_at R i) i ≡ true → (node_at R i).end ≡ i + 1
  leaf-end i k b e =
      let f : eqb (node_at R i).mid (i + 1) && eqb (node_at R i).end (i + 1) ≡ true = subst (λ (x : Bool). cond x (has_branch k || eqb (node_at R i).mid (node_at R i).end) (eqb (node_at R i).mid (i + 1) && eqb (node_at R i).end (i + 1)) ≡ true) b e in
      eqb-true _ _ (and_parts _ _ f).1

  -- One step of the scan, at a node of a known kind.
  module _ (i : ℕ) (k : Kind) (is : kind_of (node_at R i).kind ≡ Some k) (l : i < to) where
    no-break : is_break k ≡ false → valued_break (node_at R i) ≡ false
    no-break e = rw (is, e) refl

    loop-on : (r : Bool) → is_break k ≡ false → is_loop k ≡ true → Finds R to (node_at R i).end r → Finds R to i r
    loop-on r e f p = pass l (no-break e) (let g : (node_at R i).end ≡ next R i = rw (is, f) refl in subst (λ (n : ℕ). Finds R to n r) g p)

    step_in : (r : Bool) → is_break k ≡ false → is_loop k ≡ false → Finds R to (i + 1) r → Finds R to i r
    step_in r e f p = pass l (no-break e) (let g : i + 1 ≡ next R i = rw (is, f) refl in subst (λ (n : ℕ). Finds R to n r) g p)

    leaf-on : (r : Bool) → is_break k ≡ false → is_loop k ≡ false → has_body k ≡ false → shape_law k (node_at R i) i ≡ true → Finds R to (node_at R i).end r → Finds R to i r
    leaf-on r e f b s p = step_in r e f (subst (λ (n : ℕ). Finds R to n r) (leaf-end i k b s) p)

  -- A `break`, or a `continue`.
  break-on : (i : ℕ) (B C r : Bool) → kind_of (node_at R i).kind ≡ Some BreakLoop → shape_law BreakLoop (node_at R i) i ≡ true → i < to → Finds R to (node_at R i).end r
      → Finds R to i (breaks_head (head_as R i BreakLoop) B C || r)
  break-on i B C r is s l p = go (flagged 8 (node_at R i).flags) (eqb (node_at R i).expr 0) refl refl
    where
      here : valued_break (node_at R i) ≡ (flagged 8 (node_at R i).flags && not (eqb (node_at R i).expr 0))
      here = rw is refl

      on : valued_break (node_at R i) ≡ false → Finds R to i r
      on e = pass l e (let g : (node_at R i).end ≡ next R i = rw is (leaf-end i BreakLoop refl s) in subst (λ (n : ℕ). Finds R to n r) g p)

      go : (f z : Bool) → flagged 8 (node_at R i).flags ≡ f → eqb (node_at R i).expr 0 ≡ z → Finds R to i (breaks_head (head_as R i BreakLoop) B C || r)
      go true false e g = rw (e, g) (hit l (here ∙ rw (e, g) refl))
      go true true e g = rw (e, g) (on (here ∙ rw (e, g) refl))
      go false z e g = rw e (on (here ∙ rw e refl))

  -- Without a branch the body ends where the statement ends.
  no-branch : (i : ℕ) (k : Kind) → has_body k ≡ true → has_branch k ≡ false → shape_law k (node_at R i) i ≡ true → (node_at R i).mid ≡ (node_at R i).end
  no-branch i k b c e = eqb-true _ _ (rw (b, c) at e)

  -- A statement of a known kind, by what the scan finds in its body, in its branch and after it.
  at-kind : (a : ℕ) (B C r : Bool) (k : Kind) → kind_of (node_at R a).kind ≡ Some k → shape_law k (node_at R a) a ≡ true → a < to
      → Finds R to (node_at R a).end r → Finds R to (node_at R a).mid (C || r) → ((x : Bool) → Finds R to (node_at R a).mid x → Finds R to (a + 1) (B || x))
      → Finds R to a (breaks_head (head_as R a k) B C || r)
  at-kind a B C r Noop is s l e m b = leaf-on a Noop is l r refl refl refl s e
  at-kind a B C r Var is s l e m b = leaf-on a Var is l r refl refl refl s e
  at-kind a B C r Expr is s l e m b = leaf-on a Expr is l r refl refl refl s e
  at-kind a B C r FnCall is s l e m b = leaf-on a FnCall is l r refl refl refl s e
  at-kind a B C r Assignment is s l e m b = go (eqb (node_at R a).target 1) refl
    where
      go : (t : Bool) → eqb (node_at R a).target 1 ≡ t → Finds R to a (breaks_head (head_as R a Assignment) B C || r)
      go true f = rw f (leaf-on a Assignment is l r refl refl refl s e)
      go false f = rw f (leaf-on a Assignment is l r refl refl refl s e)
  at-kind a B C r Block is s l e m b =
      step_in a Block is l (B || r) refl refl (b r (subst (λ (n : ℕ). Finds R to n r) (sym (no-branch a Block refl refl s)) e))
  at-kind a B C r TryCatch is s l e m b = subst (λ (x : Bool). Finds R to a x) (sym (or_assoc B C r)) (step_in a TryCatch is l (B || (C || r)) refl refl (b (C || r) m))
  at-kind a B C r For is s l e m b = loop-on a For is l r refl refl e
  at-kind a B C r If is s l e m b = subst (λ (x : Bool). Finds R to a x) (sym (or_assoc B C r)) (step_in a If is l (B || (C || r)) refl refl (b (C || r) m))
  at-kind a B C r While is s l e m b = loop-on a While is l r refl refl e
  at-kind a B C r Do is s l e m b = loop-on a Do is l r refl refl e
  at-kind a B C r BreakLoop is s l e m b = break-on a B C r is s l e
  at-kind a B C r Return is s l e m b = go (flagged 8 (node_at R a).flags) refl
    where
      go : (t : Bool) → flagged 8 (node_at R a).flags ≡ t → Finds R to a (breaks_head (head_as R a Return) B C || r)
      go true f = rw f (leaf-on a Return is l r refl refl refl s e)
      go false f = rw f (leaf-on a Return is l r refl refl refl s e)

  mutual
    pub finds-tree : (s : Stmt) (a b : ℕ) (r : Bool) → TreeAt (statements R) s a b → b ≤ to → Finds R to b r → Finds R to a (breaks_s s || r)
    finds-tree (node h B C) a b r p l q =
        let k = kinded a p.1 in
        let lt : a < to = (let t = tree-lt (statements R) (node h B C) a b p in omega arith) in
        let u = forest-le (statements R) C (node_at R a).mid (node_at R a).end p.3 in
        let e : b ≡ (node_at R a).end = p.4 in
        let at-end : Finds R to (node_at R a).end r = subst (λ (n : ℕ). Finds R to n r) e q in
        let in-branch : Finds R to (node_at R a).mid (has_break_value C || r) = finds C (node_at R a).mid (node_at R a).end r p.3 (omega arith) at-end in
        let in_body : (x : Bool) → Finds R to (node_at R a).mid x → Finds R to (a + 1) (has_break_value B || x) = λ x f. finds B (a + 1) (node_at R a).mid x p.2 (omega arith) f in
        subst (λ (g : Head). Finds R to a (breaks_head g (has_break_value B) (has_break_value C) || r)) (sym (p.0 ∙ head_as_lem R a k.kind k.is))
        (at-kind a (has_break_value B) (has_break_value C) r k.kind k.is k.shape lt at-end in-branch in_body)

    pub finds : (f : Forest Head) (a b : ℕ) (r : Bool) → ForestAt (statements R) f a b → b ≤ to → Finds R to b r → Finds R to a (has_break_value f || r)
    finds nil a b r p l q = subst (λ (n : ℕ). Finds R to n r) (sym p) q
    finds (more s f) a b r p l q =
        let u = forest-le (statements R) f p.0 b p.2 in
        subst (λ (x : Bool). Finds R to a x) (sym (or_assoc (breaks_s s) (has_break_value f) r)) (finds-tree s a p.0 (has_break_value f || r) p.1 (omega arith) (finds f p.0 b r p.2 l q))

  -- A whole block.
  pub finds-block : (f : Forest Head) (a : ℕ) → ForestAt (statements R) f a to → Finds R to a (has_break_value f)
  finds-block f a p = subst (λ (x : Bool). Finds R to a x) (or-false (has_break_value f)) (finds f a to false p (omega arith) (over (omega arith)))
