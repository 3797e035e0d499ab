-- What the numbers of residual rows mean.
use Rattle.std.specs.Prelude.{ℕ, cond, Some, None, Option, ◌==◌}
use Rattle.code.specs.declared.rows.RowKind.{RowKind}
use Rattle.code.specs.declared.rows.RowKind.TheVariants.{Expression, Statement}

-- The kind of a row.
abbrev pub row_kind_of : ℕ → Option RowKind
row_kind_of n = cond (n == 1) (Some Expression) (cond (n == 2) (Some Statement) None)

-- The number of a kind.
abbrev pub row_number : RowKind → ℕ
row_number Expression = 1
row_number Statement = 2
