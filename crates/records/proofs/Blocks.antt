-- The laws by which code that goes through ranges of nodes is proved against the tree that is read from them.
use Rattle.std.proofs.Common.{◌≡◌, ℕ, ◌+◌, ◌<◌, ◌≤◌, Bool, true, false, cond, eqb, length, Some, Option, refl, ap, ◌∙◌, arith, eqb-true}
use Rattle.records.specs.declared.kinds.Kind.{Kind}
use Rattle.records.specs.Tree.{Records, Tree.node, Forest.nil, Forest.more, node_at, head_of}
use Rattle.records.specs.Meanings.{kind_of, kind_number}
use Rattle.records.specs.Accepts.{statements, block_from, stmt_from, Sound}
use Rattle.records.proofs.Forests.{forest-none, forest-more}

-- An empty range is an empty block.
pub block_none : (R : Records) (a b : ℕ) → b ≤ a → block_from R a b ≡ nil
block_none R a b l = forest-none (statements R) a b l

-- Any other range is the statement at its first node, and then the block from that one's end on.
pub block_more : (R : Records) → Sound R → (a b : ℕ) → a < b → b ≤ length R.nodes → block_from R a b ≡ more (stmt_from R a) (block_from R (node_at R a).end b)
block_more R s a b i l = forest-more (statements R) 0 s.nodes a b (omega arith) i l

-- A statement has its body and its branch.
pub stmt-is : (R : Records) (i : ℕ)
    → stmt_from R i ≡ node (head_of R i) (block_from R (i + 1) (node_at R i).mid) (block_from R (node_at R i).mid (node_at R i).end)
stmt-is R i = refl

-- The number of a node whose kind is known: with it the node's head computes.
pub kind-number : (n : ℕ) (k : Kind) → kind_of n ≡ Some k → n ≡ kind_number k
kind-number n k q =
    step 1 _ _ refl (step 2 _ _ refl (step 3 _ _ refl (step 4 _ _ refl (step 5 _ _ refl (step 6 _ _ refl (step 7 _ _ refl (step 8 _ _ refl (step 9 _ _ refl (step 10 _ _ refl (step 11 _ _ refl (step 12 _ _ refl (step 13 _ _ refl (λ e. cc))))))))))))) q
  where
    -- one number, and those after it
    step : (m : ℕ) (x : Kind) (o : Option Kind) → m ≡ kind_number x → (o ≡ Some k → n ≡ kind_number k) → cond (eqb n m) (Some x) o ≡ Some k → n ≡ kind_number k
    step m x o e rest q = go (eqb n m) refl q
      where
        go : (b : Bool) → eqb n m ≡ b → cond b (Some x) o ≡ Some k → n ≡ kind_number k
        go true p q = let same : x ≡ k = cc in eqb-true n m p ∙ e ∙ ap kind_number same
        go false p q = rest q
