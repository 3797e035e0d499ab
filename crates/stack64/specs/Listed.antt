-- A stack as a list, the newest first.
use Rattle.std.specs.Prelude.{ℕ, List, reverse, take}
use Rattle.stack64.specs.declared.stack.Stack64.{Stack64}

-- The first n of a list, the last of them first.
unfoldable pub stack : {A : Type 0} → ℕ → List A → List A
stack n xs = reverse (take n xs)

abbrev pub listed : {A : Type 0} → Stack64 A → List A
listed s = stack s.height s.cells
