-- How many operations stand for expressions, told from their records one by one.
use Rattle.std.specs.Prelude.{◌≡◌, ℕ, zero, suc, ◌+◌, ◌<◌, ◌≤◌, cond, Some, None, Option}
use Rattle.records.specs.declared.kinds.Form.{Form}
use Rattle.records.specs.Meanings.{form_of, is_list}
use Rattle.records.specs.Tree.{Records, expr_at}

-- What a record adds to the operations of a list: as an item with its test, but for its own items.
abbrev pub weight_of : Option Form → ℕ
weight_of None = 2
weight_of (Some f) = cond (is_list f) 4 2

abbrev pub weight : Records → ℕ → ℕ
weight R i = weight_of (form_of (expr_at R i).form)

-- What so many records from a on add.
abbrev pub weigh : Records → ℕ → ℕ → ℕ
weigh R zero a = 0
weigh R (suc k) a = weight R a + weigh R k (suc a)

-- A count that stops past a longest segment with its test.
pub record Capped (all count : ℕ) : Type 0 where
  pub exact : all ≤ 65 → count ≡ all
  pub past : 65 < all → 65 < count
