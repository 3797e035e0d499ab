-- Records in preorder, as a relation with trees: for expressions and for statements alike.
use Rattle.std.specs.Prelude.{◌≡◌, ℕ, zero, suc, ◌+◌, ◌<◌, ◌≤◌, Bool, true, cond, nat_lt}
use Rattle.records.specs.Tree.{Tree, Forest, Tree.node, Forest.nil, Forest.more}

-- A table of so many records: what the record at a place says, where its first and its second list of parts end, and
-- whether its own fields are lawful. The first list begins just after the record, the second where the first ends.
pub record Table (H : Type 0) : Type 0 where
  pub size : ℕ
  pub head : ℕ → H
  pub mid : ℕ → ℕ
  pub end : ℕ → ℕ
  pub law : ℕ → Bool

-- A tree's records are those from a up to before b; so are those of a list of trees, one after another.
abbrev mutual
  pub TreeAt : {H : Type 0} → Table H → Tree H → ℕ → ℕ → Type 0
  TreeAt t (node h first second) a b =
      (h ≡ t.head a) × (t.law a ≡ true) × ForestAt t first (a + 1) (t.mid a) × ForestAt t second (t.mid a) (t.end a) × (b ≡ t.end a)

  pub ForestAt : {H : Type 0} → Table H → Forest H → ℕ → ℕ → Type 0
  ForestAt t nil a b = a ≡ b
  ForestAt t (more s f) a b = (m : ℕ) × TreeAt t s a m × ForestAt t f m b

-- The trees that are read from a up to before b, in at most so many steps.
unfoldable pub grown : {H : Type 0} → Table H → ℕ → ℕ → ℕ → Forest H
grown t zero a b = nil
grown t (suc k) a b =
    let rest = more (node (t.head a) (grown t k (a + 1) (t.mid a)) (grown t k (t.mid a) (t.end a))) (grown t k (t.end a) b) in
    cond (nat_lt a b) rest nil

-- The trees that are read from a up to before b, and the tree at a.
unfoldable pub forest_from : {H : Type 0} → Table H → ℕ → ℕ → Forest H
forest_from t a b = grown t t.size a b

abbrev pub tree_from : {H : Type 0} → Table H → ℕ → Tree H
tree_from t a = node (t.head a) (forest_from t (a + 1) (t.mid a)) (forest_from t (t.mid a) (t.end a))

-- A record that stands well: its parts lie after it, one list after the other, inside the table; its own fields are
-- lawful; and it is where the tree that is read at it stands.
pub record Placed {H : Type 0} (t : Table H) (i : ℕ) : Type 0 where
  pub after : i < t.mid i
  pub ordered : t.mid i ≤ t.end i
  pub within : t.end i ≤ t.size
  pub lawful : t.law i ≡ true
  pub stands : TreeAt t (tree_from t i) i (t.end i)

-- All records stand well, from a first one on.
abbrev pub AllPlaced : {H : Type 0} → Table H → ℕ → Type 0
AllPlaced t low = (i : ℕ) → low ≤ i → i < t.size → Placed t i
