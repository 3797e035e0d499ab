-- Trees that stand in a table of records: their places, each of their records, and that there is but one.
use Rattle.std.proofs.Common.{◌≡◌, ℕ, zero, suc, ◌+◌, ◌<◌, ◌≤◌, max, Bool, true, false, cond, ltb, sym, refl, ◌∙◌, subst, inl, inr, arith, ltb-true, le-ltb, lt-ltb}
use Rattle.std.proofs.lemmas.Bool.{cases_lt}
use Rattle.records.specs.Tree.{Tree, Forest, Tree.node, Forest.nil, Forest.more}
use Rattle.records.specs.Preorder.{Table, TreeAt, ForestAt, grown, forest_from, tree_from, Placed, AllPlaced}

pub tree-end : {H : Type 0} (t : Table H) (s : Tree H) (a b : ℕ) → TreeAt t s a b → b ≡ t.end a
tree-end t (node h B C) a b p = p.4

-- Where trees stand, the places go up.
mutual
  pub tree-lt : {H : Type 0} (t : Table H) (s : Tree H) (a b : ℕ) → TreeAt t s a b → a < b
  tree-lt t (node h B C) a b p =
      let u = forest-le t B (a + 1) (t.mid a) p.2 in
      let v = forest-le t C (t.mid a) (t.end a) p.3 in
      let e = p.4 in
      omega arith

  pub forest-le : {H : Type 0} (t : Table H) (f : Forest H) (a b : ℕ) → ForestAt t f a b → a ≤ b
  forest-le t nil a b p = omega arith
  forest-le t (more s f) a b p =
      let u = tree-lt t s a p.0 p.1 in
      let v = forest-le t f p.0 b p.2 in
      omega arith

-- A record that stands below: the tree at it, which ends before a bound.
pub record Below {H : Type 0} (t : Table H) (b i : ℕ) : Type 0 where
  pub tree : Tree H
  pub at : TreeAt t tree i (t.end i)
  pub within : t.end i ≤ b

wider : {H : Type 0} {t : Table H} {b c i : ℕ} → b ≤ c → Below t b i → Below t c i
wider l x = record { tree = x.tree; at = x.at; within = let w = x.within in omega arith }

mutual
  pub each_t : {H : Type 0} (t : Table H) (s : Tree H) (a b : ℕ) → TreeAt t s a b → (i : ℕ) → a ≤ i → i < b → Below t b i
  each_t t (node h B C) a b p i l u =
      let e = p.4 in
      let m = forest-le t C (t.mid a) (t.end a) p.3 in
      elim (cases_lt a i) [
        | inl q ↦ elim (cases_lt i (t.mid a)) [
          | inl r ↦ wider (omega arith) (each_f t B (a + 1) (t.mid a) p.2 i (omega arith) r)
          | inr r ↦ wider (omega arith) (each_f t C (t.mid a) (t.end a) p.3 i r (omega arith))
        ]
        | inr q ↦ let same : a ≡ i = omega arith in
            subst (λ (x : ℕ). Below t b x) same (record { tree = node h B C; at = (p.0, p.1, p.2, p.3, refl); within = omega arith })
      ]

  pub each_f : {H : Type 0} (t : Table H) (f : Forest H) (a b : ℕ) → ForestAt t f a b → (i : ℕ) → a ≤ i → i < b → Below t b i
  each_f t nil a b p i l u = absurd (omega arith)
  each_f t (more s f) a b p i l u =
      let v = forest-le t f p.0 b p.2 in
      elim (cases_lt i p.0) [
        | inl q ↦ wider v (each_t t s a p.0 p.1 i l q)
        | inr q ↦ each_f t f p.0 b p.2 i q u
      ]

-- What stands is what is read.
mutual
  unfolding grown

  pub is_t : {H : Type 0} (t : Table H) (s : Tree H) (a b : ℕ) → TreeAt t s a b → b ≤ t.size → (k : ℕ) → t.size ≤ k + (a + 1)
      → s ≡ node (t.head a) (grown t k (a + 1) (t.mid a)) (grown t k (t.mid a) (t.end a))
  is_t t (node h B C) a b p l k r =
      let e = p.4 in
      let u = forest-le t B (a + 1) (t.mid a) p.2 in
      let v = forest-le t C (t.mid a) (t.end a) p.3 in
      let x = is_f t B (a + 1) (t.mid a) p.2 (omega arith) k r in
      let y = is_f t C (t.mid a) (t.end a) p.3 (omega arith) k (omega arith) in
      cc (p.0, x, y)

  pub is_f : {H : Type 0} (t : Table H) (f : Forest H) (a b : ℕ) → ForestAt t f a b → b ≤ t.size → (k : ℕ) → t.size ≤ k + a → f ≡ grown t k a b
  is_f t nil a b p l zero r = refl
  is_f t nil a b p l (suc k) r = rw (le-ltb a b (omega arith)) refl
  is_f t (more s f) a b p l zero r =
      let u = tree-lt t s a p.0 p.1 in
      let v = forest-le t f p.0 b p.2 in
      absurd (omega arith)
  is_f t (more s f) a b p l (suc k) r =
      let u = tree-lt t s a p.0 p.1 in
      let v = forest-le t f p.0 b p.2 in
      let x = is_t t s a p.0 p.1 (omega arith) k (omega arith) in
      let y = is_f t f p.0 b p.2 l k (omega arith) in
      let e = tree-end t s a p.0 p.1 in
      rw (lt-ltb a b (omega arith)) (cc (x, y, e))

pub is-forest : {H : Type 0} (t : Table H) (f : Forest H) (a b : ℕ) → ForestAt t f a b → b ≤ t.size → f ≡ forest_from t a b
unfolding forest_from
is-forest t f a b p l = is_f t f a b p l t.size (omega arith)

pub is-tree : {H : Type 0} (t : Table H) (s : Tree H) (a b : ℕ) → TreeAt t s a b → b ≤ t.size → s ≡ tree_from t a
unfolding forest_from
is-tree t s a b p l = is_t t s a b p l t.size (omega arith)

-- An empty range has no trees.
pub forest-none : {H : Type 0} (t : Table H) (a b : ℕ) → b ≤ a → forest_from t a b ≡ nil
unfolding forest_from grown
forest-none t a b l = go t.size
  where
    go : (k : ℕ) → grown t k a b ≡ nil
    go zero = refl
    go (suc k) = rw (le-ltb a b l) refl

-- An empty table's range may end before it begins.
pub is-forest-max : {H : Type 0} (t : Table H) (f : Forest H) (low : ℕ) → ForestAt t f low (max low t.size) → f ≡ forest_from t low t.size
is-forest-max t f low p = elim (cases_lt low t.size) [ inl l ↦ within l | inr l ↦ none l f p ∙ sym (forest-none t low t.size l) ]
  where
    within : low < t.size → f ≡ forest_from t low t.size
    within l = let same : max low t.size ≡ t.size = omega arith in
        is-forest t f low t.size (subst (λ (m : ℕ). ForestAt t f low m) same p) (omega arith)

    none : t.size ≤ low → (g : Forest _) → ForestAt t g low (max low t.size) → g ≡ nil
    none l nil q = refl
    none l (more s g) q =
        let u = tree-lt t s low q.0 q.1 in
        let v = forest-le t g q.0 (max low t.size) q.2 in
        absurd (omega arith)

-- Every record stands well where trees stand from a first record on to the end.
pub placed : {H : Type 0} (t : Table H) (f : Forest H) (low : ℕ) → ForestAt t f low (max low t.size) → AllPlaced t low
placed t f low p i l u = made x.tree x.at
  where
    x : Below t (max low t.size) i
    x = each_f t f low (max low t.size) p i l (omega arith)

    made : (s : Tree _) → TreeAt t s i (t.end i) → Placed t i
    made (node h B C) q =
        let v = forest-le t B (i + 1) (t.mid i) q.2 in
        let w = forest-le t C (t.mid i) (t.end i) q.3 in
        let b = x.within in
        let s : t.end i ≤ t.size = omega arith in
        record { after = omega arith; ordered = w; within = s; lawful = q.1; stands = subst (λ (y : Tree _). TreeAt t y i (t.end i)) (is-tree t (node h B C) i (t.end i) q s) q }

-- ## The laws of what is read

-- More steps than enough change nothing.
same : {H : Type 0} (t : Table H) (low : ℕ) → AllPlaced t low → (j k a b : ℕ) → low ≤ a → b ≤ t.size → t.size ≤ j + a → t.size ≤ k + a
    → grown t j a b ≡ grown t k a b
unfolding grown
same t low h zero zero a b o l p q = refl
same t low h zero (suc k) a b o l p q = rw (le-ltb a b (omega arith)) refl
same t low h (suc j) zero a b o l p q = rw (le-ltb a b (omega arith)) refl
same t low h (suc j) (suc k) a b o l p q = go (λ c d. same t low h j k c d) (ltb a b) refl
  where
    go : ((c d : ℕ) → low ≤ c → d ≤ t.size → t.size ≤ j + c → t.size ≤ k + c → grown t j c d ≡ grown t k c d) → (r : Bool) → ltb a b ≡ r
        → cond r (more (node (t.head a) (grown t j (a + 1) (t.mid a)) (grown t j (t.mid a) (t.end a))) (grown t j (t.end a) b)) nil
        ≡ cond r (more (node (t.head a) (grown t k (a + 1) (t.mid a)) (grown t k (t.mid a) (t.end a))) (grown t k (t.end a) b)) nil
    go f false e = refl
    go f true e =
        let i : a < b = ltb-true a b e in
        let s : Placed t a = h a o (omega arith) in
        let x = s.after in
        let y = s.ordered in
        let z = s.within in
        let u = f (a + 1) (t.mid a) (omega arith) (omega arith) (omega arith) (omega arith) in
        let v = f (t.mid a) (t.end a) (omega arith) (omega arith) (omega arith) (omega arith) in
        let w = f (t.end a) b (omega arith) l (omega arith) (omega arith) in
        cc (u, v, w)

-- Any other range has the tree at its first record, and then those from that one's end on.
pub forest-more : {H : Type 0} (t : Table H) (low : ℕ) → AllPlaced t low → (a b : ℕ) → low ≤ a → a < b → b ≤ t.size
    → forest_from t a b ≡ more (tree_from t a) (forest_from t (t.end a) b)
unfolding forest_from grown
forest-more t low h a b o i l = go t.size refl
  where
    go : (k : ℕ) → t.size ≡ k → grown t k a b ≡ more (node (t.head a) (grown t t.size (a + 1) (t.mid a)) (grown t t.size (t.mid a) (t.end a))) (grown t t.size (t.end a) b)
    go zero e = absurd (omega arith)
    go (suc k) e =
        let s : Placed t a = h a o (omega arith) in
        let x = s.after in
        let y = s.ordered in
        let z = s.within in
        let u = same t low h k t.size (a + 1) (t.mid a) (omega arith) (omega arith) (omega arith) (omega arith) in
        let v = same t low h k t.size (t.mid a) (t.end a) (omega arith) (omega arith) (omega arith) (omega arith) in
        let w = same t low h k t.size (t.end a) b (omega arith) l (omega arith) (omega arith) in
        rw (lt-ltb a b i) (cc (u, v, w))
