-- Statements: going through them accepts exactly where a block's tree stands.
use Rattle.std.proofs.Common.{◌≡◌, ℕ, zero, suc, ◌+◌, ◌-◌, ◌<◌, ◌≤◌, max, Bool, true, false, cond, not, ◌&&◌, ◌||◌, eqb, ltb, leb, List, [], ◌∷◌, length, Some, None, Option as Maybe, sym, refl, ap, ◌∙◌, subst, inl, inr, arith, ltb-true, lt-ltb, eq-eqb, ne_eqb, eqb-true, le-leb, leb-false, leb-true}
use mathlib.Core.Option.{Option, none, some}
use borrow.Author.Tests.{lt-leb, both_ways}
use Rattle.std.proofs.lemmas.Bool.{cases_Bool, and_parts, and_from, not-true, not_from_false}
use Rattle.records.specs.declared.kinds.Kind.{Kind}
use Rattle.records.specs.declared.nest.Open.{Open}
use Rattle.records.specs.Tree.{Records, Head, Tree.node, Forest.nil, Forest.more, Stmt, Block, node_at, head_of, flagged}
use Rattle.records.specs.Meanings.{kind_of, known, has_body, has_branch}
use Rattle.records.specs.Preorder.{TreeAt, ForestAt}
use Rattle.records.specs.Checks.{first, field_law, shape_law, range_law, left_out, compound, node_law, kind_fault, node_fault, closed, limit_of, opened, walk, statement_fault}
use Rattle.records.specs.Accepts.{statements, has_blocks, height_s, height}
use Rattle.records.proofs.Bools.{none-some, first-none, none_first}
use Rattle.records.proofs.Forests.{tree-lt, forest-le}

-- ## One statement

-- What a statement without fault has.
pub record Fine (R : Records) (i limit depth : ℕ) : Type 0 where
  pub law : node_law R i ≡ true
  pub after : i < (node_at R i).mid
  pub ordered : (node_at R i).mid ≤ (node_at R i).end
  pub within : (node_at R i).end ≤ limit
  pub shallow : compound R i ≡ true → depth < 64

-- Three tests in a row that raise no number.
passes : (a b c : Bool) → cond {A = Option ℕ} a (cond b (some 12) (cond c (some 13) none)) (some 11) ≡ none → (a ≡ true) × (b ≡ false) × (c ≡ false)
passes true false false e = (refl, refl, refl)
passes true false true e = absurd (none-some e)
passes true true c e = absurd (none-some e)
passes false b c e = absurd (none-some e)

pub fine : (R : Records) (i limit depth : ℕ) → node_fault R i limit depth ≡ none → Fine R i limit depth
fine R i limit depth e = go (kind_of (node_at R i).kind) refl e
  where
    go : (m : Maybe Kind) → kind_of (node_at R i).kind ≡ m → kind_fault m R (node_at R i) i limit depth ≡ none → Fine R i limit depth
    go None q w = absurd (none-some w)
    go (Some k) q w =
        let p = passes (field_law k R (node_at R i) && range_law k (node_at R i) i limit) (left_out k (node_at R i)) (has_body k && leb 64 depth) w in
        let f = and_parts (field_law k R (node_at R i)) _ p.0 in
        let r = and_parts (ltb i (node_at R i).mid) _ f.1 in
        let s = and_parts (leb (node_at R i).mid (node_at R i).end) _ r.1 in
        let t = and_parts (leb (node_at R i).end limit) _ s.1 in
        record {
          law = subst (λ (m : Maybe Kind). known m (λ k. field_law k R (node_at R i) && (shape_law k (node_at R i) i && not (left_out k (node_at R i)))) ≡ true) (sym q)
              (and_from _ _ f.0 (and_from _ _ t.1 (not_from_false _ p.1)));
          after = ltb-true _ _ r.0;
          ordered = leb-true _ _ s.0;
          within = leb-true _ _ t.0;
          shallow = λ c. shallow-by (has_body k) (subst (λ (m : Maybe Kind). known m has_body ≡ true) q c) p.2;
        }
      where
        shallow-by : (b : Bool) → b ≡ true → (b && leb 64 depth) ≡ false → depth < 64
        shallow-by true e h = leb-false 64 depth h
        shallow-by false e h = absurd (both_ways false refl e)

pub fineless : (R : Records) (i limit depth : ℕ) → Fine R i limit depth → node_fault R i limit depth ≡ none
fineless R i limit depth x = go (kind_of (node_at R i).kind) refl
  where
    go : (m : Maybe Kind) → kind_of (node_at R i).kind ≡ m → kind_fault m R (node_at R i) i limit depth ≡ none
    go None q = absurd (both_ways false refl (subst (λ (m : Maybe Kind). known m (λ k. field_law k R (node_at R i) && (shape_law k (node_at R i) i && not (left_out k (node_at R i)))) ≡ true) q x.law))
    go (Some k) q =
        let l : (field_law k R (node_at R i) && (shape_law k (node_at R i) i && not (left_out k (node_at R i)))) ≡ true =
        subst (λ (m : Maybe Kind). known m (λ k. field_law k R (node_at R i) && (shape_law k (node_at R i) i && not (left_out k (node_at R i)))) ≡ true) q x.law in
        let f = and_parts (field_law k R (node_at R i)) _ l in
        let s = and_parts (shape_law k (node_at R i) i) _ f.1 in
        let r : range_law k (node_at R i) i limit ≡ true = and_from _ _ (lt-ltb _ _ x.after) (and_from _ _ (le-leb _ _ x.ordered) (and_from _ _ (le-leb _ _ x.within) s.0)) in
        let d : (has_body k && leb 64 depth) ≡ false = deep (has_body k) refl (λ e. x.shallow (subst (λ (m : Maybe Kind). known m has_body ≡ true) (sym q) e)) in
        rw (f.0, r, not-true (left_out k (node_at R i)) s.1, d) refl
      where
        deep : (b : Bool) → has_body k ≡ b → (b ≡ true → depth < 64) → (b && leb 64 depth) ≡ false
        deep true e h = lt-leb 64 depth (h refl)
        deep false e h = refl

-- A statement without blocks ends with itself.
pub leaf : (R : Records) (i : ℕ) → node_law R i ≡ true → compound R i ≡ false → ((node_at R i).mid ≡ i + 1) × ((node_at R i).end ≡ i + 1)
leaf R i l c = go (kind_of (node_at R i).kind) l c
  where
    alone : (b : Bool) (k : Kind) → b ≡ false → cond b (has_branch k || eqb (node_at R i).mid (node_at R i).end) (eqb (node_at R i).mid (i + 1) && eqb (node_at R i).end (i + 1)) ≡ true
        → ((node_at R i).mid ≡ i + 1) × ((node_at R i).end ≡ i + 1)
    alone true k e h = absurd (both_ways true e refl)
    alone false k e h = let p = and_parts (eqb (node_at R i).mid (i + 1)) _ h in (eqb-true _ _ p.0, eqb-true _ _ p.1)

    go : (m : Maybe Kind) → known m (λ k. field_law k R (node_at R i) && (shape_law k (node_at R i) i && not (left_out k (node_at R i)))) ≡ true → known m has_body ≡ false
        → ((node_at R i).mid ≡ i + 1) × ((node_at R i).end ≡ i + 1)
    go None p q = absurd (both_ways false refl p)
    go (Some k) p q = alone (has_body k) k q (and_parts (shape_law k (node_at R i) i) _ (and_parts (field_law k R (node_at R i)) _ p).1).0

-- A head has blocks exactly if its kind has a body.
pub head-blocks : (R : Records) (i : ℕ) → has_blocks (head_of R i) ≡ compound R i
head-blocks R i =
    elim (cases_Bool (eqb K 1)) [
      | inl e ↦ rw (eqb-true K 1 e) refl
      | inr e ↦ rw e
          (step (eqb K 2) _ _ _ _ refl (step (eqb K 3) _ _ _ _ refl (step (eqb K 4) _ _ _ _ refl (step (eqb K 5) _ _ _ _ (same (eqb (node_at R i).target 1) _ _ _ refl refl)
          (step (eqb K 6) _ _ _ _ refl (step (eqb K 7) _ _ _ _ refl (step (eqb K 8) _ _ _ _ refl (step (eqb K 9) _ _ _ _ refl (step (eqb K 10) _ _ _ _ refl (step (eqb K 11) _ _ _ _ refl
          (step (eqb K 12) _ _ _ _ (same (flagged 8 (node_at R i).flags) _ _ _ refl refl) (step (eqb K 13) _ _ _ _ (same (flagged 8 (node_at R i).flags) _ _ _ refl refl) refl))))))))))))
    ]
  where
    K : ℕ
    K = (node_at R i).kind

    -- one number of a kind, and those after it
    step : (b : Bool) (h g : Head) (k : Kind) (m : Maybe Kind) → has_blocks h ≡ has_body k → has_blocks g ≡ known m has_body → has_blocks (cond b h g) ≡ known (cond b (Some k) m) has_body
    step true h g k m p q = p
    step false h g k m p q = q

    -- a kind with two heads
    same : (b : Bool) (h g : Head) (c : Bool) → has_blocks h ≡ c → has_blocks g ≡ c → has_blocks (cond b h g) ≡ c
    same true h g c p q = p
    same false h g c p q = q

-- ## From going through to a tree

module _ (R : Records) where
  -- A block that stands from a up to before b, and may be nested in so many.
  record Span (a b depth : ℕ) : Type 0 where
    forest : Block
    stands : ForestAt (statements R) forest a b
    low : height forest + depth ≤ 64

  -- From i on, a block stands up to each limit and each end of what is open, and at last up to the end of the records.
  abbrev Rest : ℕ → List Open → Type 0
  Rest i [] = Span i (length R.nodes) 0
  Rest i (o ∷ os) = Span i o.limit (suc (length os)) × Span o.limit o.end (suc (length os)) × Rest o.end os

  -- What is open ends later and later.
  abbrev Ordered : ℕ → List Open → Type 0
  Ordered i [] = i ≤ length R.nodes
  Ordered i (o ∷ os) = (i ≤ o.limit) × (o.limit ≤ o.end) × Ordered o.end os

  empty : (a b depth : ℕ) → a ≡ b → depth ≤ 64 → Span a b depth
  empty a b depth e l = record { forest = nil; stands = e; low = omega arith }

  -- One more tree in front.
  front : (s : Stmt) (a m b depth : ℕ) → TreeAt (statements R) s a m → height_s s + depth ≤ 64 → Span m b depth → Span a b depth
  front s a m b depth p l x = record { forest = more s x.forest; stands = (m, p, x.stands); low = let w = x.low in omega arith }

  front_rest : (s : Stmt) (a m : ℕ) (os : List Open) → TreeAt (statements R) s a m → height_s s + length os ≤ 64 → Rest m os → Rest a os
  front_rest s a m [] p l x = front s a m _ 0 p l x
  front_rest s a m (o ∷ os) p l x = (front s a m _ _ p l x.0, x.1, x.2)

  ordered-le : (i : ℕ) (os : List Open) → Ordered i os → i ≤ length R.nodes
  ordered-le i [] o = o
  ordered-le i (t ∷ os) o = let u = ordered-le t.end os o.2 in let v = o.0 in let w = o.1 in omega arith

  -- At the end all that is open is empty.
  all-empty : (i : ℕ) (os : List Open) → length R.nodes ≤ i → Ordered i os → length os ≤ 64 → Rest i os
  all-empty i [] h o l = empty _ _ 0 (omega arith) (omega arith)
  all-empty i (t ∷ os) h o l =
      let u = ordered-le t.end os o.2 in
      let v = o.0 in
      let w = o.1 in
      (empty _ _ _ (omega arith) l, empty _ _ _ (omega arith) l, all-empty t.end os (omega arith) o.2 (omega arith))

  -- Closing what is full changes nothing of what stands.
  closed-rest : (i : ℕ) (os : List Open) → length os ≤ 64 → Rest i (closed i os) → Rest i os
  closed-rest i [] l x = x
  closed-rest i (t ∷ os) l x = go (eqb t.limit i) (eqb t.end i) refl refl (closed-rest i os (omega arith)) x
    where
      go : (b c : Bool) → eqb t.limit i ≡ b → eqb t.end i ≡ c → (Rest i (closed i os) → Rest i os)
          → Rest i (cond b (cond c (closed i os) (record { limit = t.end; end = t.end } ∷ os)) (t ∷ os)) → Rest i (t ∷ os)
      go false c p q rec x = x
      go true true p q rec x =
          let u = eqb-true _ _ p in
          let v = eqb-true _ _ q in
          (empty _ _ _ (sym u) l, empty _ _ _ (u ∙ sym v) l, subst (λ (j : ℕ). Rest j os) (sym v) (rec x))
      go true false p q rec x =
          let u = eqb-true _ _ p in
          (empty _ _ _ (sym u) l, subst (λ (j : ℕ). Span j t.end (suc (length os))) (sym u) x.0, x.2)

  record Closed (i : ℕ) (os : List Open) : Type 0 where
    ordered : Ordered i os
    short : length os ≤ 64

  closed-ordered : (i : ℕ) (os : List Open) → Ordered i os → length os ≤ 64 → Closed i (closed i os)
  closed-ordered i [] o l = record { ordered = o; short = l }
  closed-ordered i (t ∷ os) o l = go (eqb t.limit i) (eqb t.end i) refl refl (λ q. closed-ordered i os q (omega arith))
    where
      go : (b c : Bool) → eqb t.limit i ≡ b → eqb t.end i ≡ c → (Ordered i os → Closed i (closed i os))
          → Closed i (cond b (cond c (closed i os) (record { limit = t.end; end = t.end } ∷ os)) (t ∷ os))
      go false c p q rec = record { ordered = o; short = l }
      go true true p q rec = rec (subst (λ (j : ℕ). Ordered j os) (eqb-true _ _ q) o.2)
      go true false p q rec = record { ordered = (let v = o.0 in let w = o.1 in omega arith, omega arith, o.2); short = l }

  from-limit : (i : ℕ) (os : List Open) → Ordered i os → (m : ℕ) → m ≤ limit_of (length R.nodes) os → Ordered m os
  from-limit i [] o m l = l
  from-limit i (t ∷ os) o m l = (l, o.1, o.2)

  raised : (b : Bool) (x d : ℕ) → suc x + d ≤ 64 → cond b (suc x) x + d ≤ 64
  raised true x d h = h
  raised false x d h = omega arith

  -- One statement in front of what stands after it.
  met : (i : ℕ) (os : List Open) → Fine R i (limit_of (length R.nodes) os) (length os) → length os ≤ 64
      → (b : Bool) → compound R i ≡ b → Rest (i + 1) (cond b (record { limit = (node_at R i).mid; end = (node_at R i).end } ∷ os) os) → Rest i os
  met i os f l true c r =
      let u = r.0.low in
      let v = r.1.low in
      front_rest (node (head_of R i) r.0.forest r.1.forest) i (node_at R i).end os (refl, f.law, r.0.stands, r.1.stands, refl)
      (raised (has_blocks (head_of R i)) (max (height r.0.forest) (height r.1.forest)) (length os) (omega arith)) r.2
  met i os f l false c r =
      let e = leaf R i f.law c in
      front_rest (node (head_of R i) nil nil) i (node_at R i).end os (refl, f.law, sym e.0, e.0 ∙ sym e.1, refl)
      (rw (head-blocks R i ∙ c) (omega arith)) (subst (λ (j : ℕ). Rest j os) (sym e.1) r)

  -- Where going through finds no fault, blocks stand.
  stands-rest : (k i : ℕ) (os : List Open) → i + k ≡ length R.nodes → Ordered i os → length os ≤ 64 → walk R k i os ≡ none → Rest i os
  unfolding walk
  stands-rest zero i os e o l w = all-empty i os (omega arith) o l
  stands-rest (suc k) i os e o l w =
      closed-rest i os l (go (closed i os) (closed-ordered i os o l) (first-none {x = node_fault R i (limit_of (length R.nodes) (closed i os)) (length (closed i os))} w)
      (λ os o l w. stands-rest k (i + 1) os (omega arith) o l w))
    where
      go : (os : List Open) → Closed i os → (node_fault R i (limit_of (length R.nodes) os) (length os) ≡ none) × (walk R k (i + 1) (opened R i os) ≡ none)
          → ((os : List Open) → Ordered (i + 1) os → length os ≤ 64 → walk R k (i + 1) os ≡ none → Rest (i + 1) os) → Rest i os
      go os c w rec = after (fine R i (limit_of (length R.nodes) os) (length os) w.0) (compound R i) refl w.1
        where
          after : Fine R i (limit_of (length R.nodes) os) (length os) → (b : Bool) → compound R i ≡ b
              → walk R k (i + 1) (cond b (record { limit = (node_at R i).mid; end = (node_at R i).end } ∷ os) os) ≡ none → Rest i os
          after f true e w =
              let s = f.shallow e in
              let x = f.after in
              met i os f c.short true e (rec _ (omega arith, f.ordered, from-limit i os c.ordered _ f.within) (omega arith) w)
          after f false e w =
              let q = leaf R i f.law e in
              let x = f.within in
              met i os f c.short false e (rec _ (from-limit i os c.ordered _ (let y = q.1 in omega arith)) c.short w)

  -- No fault at all: the script's block stands.
  pub block-stands : statement_fault R ≡ none → (b : Block) × ForestAt (statements R) b 0 (length R.nodes) × (height b ≤ 64)
  block-stands w = let x = stands-rest (length R.nodes) 0 [] (omega arith) (omega arith) (omega arith) w in (x.forest, x.stands, let l = x.low in omega arith)

  -- ## From a tree to going through

  closed-not : (i : ℕ) (os : List Open) → i < limit_of (length R.nodes) os → closed i os ≡ os
  closed-not i [] h = refl
  closed-not i (t ∷ os) h = rw (ne_eqb t.limit i (λ e. omega arith)) refl

  walk-closed : (k i : ℕ) (os ps : List Open) → closed i os ≡ closed i ps → walk R k i os ≡ walk R k i ps
  unfolding walk
  walk-closed zero i os ps e = refl
  walk-closed (suc k) i os ps e =
      ap (λ (qs : List Open). first (node_fault R i (limit_of (length R.nodes) qs) (length qs)) (walk R k (i + 1) (opened R i qs))) e

  -- A body that is full is followed by the branch, and a branch that is full is closed.
  full_body : (mid end : ℕ) (os : List Open) → closed mid (record { limit = mid; end = end } ∷ os) ≡ closed mid (record { limit = end; end = end } ∷ os)
  full_body mid end os = rw (eq-eqb mid mid refl) (go (eqb end mid))
    where
      go : (b : Bool) → cond b (closed mid os) (record { limit = end; end = end } ∷ os) ≡ cond b (cond b (closed mid os) (record { limit = end; end = end } ∷ os)) (record { limit = end; end = end } ∷ os)
      go true = refl
      go false = refl

  full-branch : (end : ℕ) (os : List Open) → closed end (record { limit = end; end = end } ∷ os) ≡ closed end os
  full-branch end os = rw (eq-eqb end end refl) refl

  raised-only : (b : Bool) (x d : ℕ) → b ≡ true → cond b (suc x) x + d ≤ 64 → suc x + d ≤ 64
  raised-only true x d e h = h
  raised-only false x d e h = absurd (both_ways false refl e)

  mutual
    unfolding walk

    pass_t : (s : Stmt) (a b : ℕ) → TreeAt (statements R) s a b → (os : List Open) → b ≤ limit_of (length R.nodes) os → height_s s + length os ≤ 64
        → (j : ℕ) → b + j ≡ length R.nodes → walk R j b os ≡ none → (k : ℕ) → a + k ≡ length R.nodes → walk R k a os ≡ none
    pass_t (node h B C) a b p os lim low j ej w zero ek = let u = tree-lt (statements R) (node h B C) a b p in absurd (omega arith)
    pass_t (node h B C) a b p os lim low j ej w (suc k) ek =
        let t = tree-lt (statements R) (node h B C) a b p in
        let u = forest-le (statements R) B (a + 1) (node_at R a).mid p.2 in
        let v = forest-le (statements R) C (node_at R a).mid (node_at R a).end p.3 in
        let e = p.4 in
        let lowered : compound R a ≡ true → suc (max (height B) (height C)) + length os ≤ 64
        = λ c. raised-only (has_blocks h) (max (height B) (height C)) (length os) (ap has_blocks p.0 ∙ head-blocks R a ∙ c) low in
        rw (closed-not a os (omega arith)) (none_first
        (fineless R a (limit_of (length R.nodes) os) (length os)
        (record { law = p.1; after = omega arith; ordered = v; within = omega arith; shallow = λ c. let z = lowered c in omega arith }))
        (elim (cases_Bool (compound R a)) [
          | inl c ↦
              let z = lowered c in
              let m = length R.nodes - (node_at R a).mid in
              subst (λ (x : Bool). walk R k (a + 1) (cond x (record { limit = (node_at R a).mid; end = (node_at R a).end } ∷ os) os) ≡ none) (sym c)
              (pass_f B (a + 1) (node_at R a).mid p.2 (record { limit = (node_at R a).mid; end = (node_at R a).end } ∷ os) (omega arith) (omega arith) m (omega arith)
              (walk-closed m (node_at R a).mid _ _ (full_body (node_at R a).mid (node_at R a).end os)
              ∙ pass_f C (node_at R a).mid (node_at R a).end p.3 (record { limit = (node_at R a).end; end = (node_at R a).end } ∷ os) (omega arith) (omega arith) j (omega arith)
              (walk-closed j (node_at R a).end _ _ (full-branch (node_at R a).end os) ∙ subst (λ (x : ℕ). walk R j x os ≡ none) e w) m (omega arith))
              k (omega arith))
          | inr c ↦
              let q = leaf R a p.1 c in
              let next : b ≡ a + 1 = e ∙ q.1 in
              let same : j ≡ k = omega arith in
              subst (λ (x : Bool). walk R k (a + 1) (cond x (record { limit = (node_at R a).mid; end = (node_at R a).end } ∷ os) os) ≡ none) (sym c)
              (subst (λ (x : ℕ). walk R x (a + 1) os ≡ none) same (subst (λ (x : ℕ). walk R j x os ≡ none) next w))
        ]))

    pass_f : (f : Block) (a b : ℕ) → ForestAt (statements R) f a b → (os : List Open) → b ≤ limit_of (length R.nodes) os → height f + length os ≤ 64
        → (j : ℕ) → b + j ≡ length R.nodes → walk R j b os ≡ none → (k : ℕ) → a + k ≡ length R.nodes → walk R k a os ≡ none
    pass_f nil a b p os lim low j ej w k ek = let same : j ≡ k = omega arith in subst (λ (x : ℕ). walk R x a os ≡ none) same (subst (λ (x : ℕ). walk R j x os ≡ none) (sym p) w)
    pass_f (more s f) a b p os lim low j ej w k ek =
        let u = tree-lt (statements R) s a p.0 p.1 in
        let v = forest-le (statements R) f p.0 b p.2 in
        let m = length R.nodes - p.0 in
        pass_t s a p.0 p.1 os (omega arith) (omega arith) m (omega arith) (pass_f f p.0 b p.2 os lim (omega arith) j ej w m (omega arith)) k ek

  -- Where the script's block stands, going through finds no fault.
  pub block-passes : (b : Block) → ForestAt (statements R) b 0 (length R.nodes) → height b ≤ 64 → statement_fault R ≡ none
  unfolding walk
  block-passes b p l = pass_f b 0 (length R.nodes) p [] (omega arith) (omega arith) 0 (omega arith) refl (length R.nodes) (omega arith)
