-- Blocks of records, as the rules of lowering take them.
use Rattle.std.specs.Prelude.{ℕ, Bool, false, ◌&&◌, ◌==◌}
use Rattle.records.specs.Tree.{Records}
use Rattle.records.specs.Accepts.{block_from}
use Rattle.code.specs.declared.shapes.Lowered.{Lowered}
use Rattle.code.specs.declared.shapes.Lowered.TheVariants.{Empty}
use Rattle.meaning.specs.LowerState.{M}
use Rattle.meaning.specs.Lower.{scoped, lower_list}
use Rattle.lowering.specs.declared.state.Level.{Level}

-- The block of the statements from one node up to before another, with a scope of its own.
abbrev pub inner : Records → ℕ → ℕ → M Lowered
inner R from to = scoped (lower_list R false Empty (block_from R from to))

-- A checkpoint stands before each statement of the script's own block, at level 0, if the scope is kept.
abbrev pub keeping : Records → Level → Bool
keeping R l = R.keep && l.level == 0
