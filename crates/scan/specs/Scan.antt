-- What the scan for a break value looks for.
use Rattle.std.specs.Prelude.{Bool, true, false, not, ◌&&◌, ◌==◌}
use Rattle.records.specs.declared.kinds.Kind.{Kind}
use Rattle.records.specs.declared.kinds.Kind.TheVariants.{Noop, Var, Expr, FnCall, Assignment, Block, TryCatch, For, If, While, Do, BreakLoop, Return}
use Rattle.records.specs.declared.types.Node.{Node}
use Rattle.records.specs.Meanings.{kind_of, known}
use Rattle.records.specs.Tree.{flagged}

-- The kinds that are loops.
abbrev pub is_loop : Kind → Bool
is_loop Noop = false
is_loop Var = false
is_loop Expr = false
is_loop FnCall = false
is_loop Assignment = false
is_loop Block = false
is_loop TryCatch = false
is_loop For = true
is_loop If = false
is_loop While = true
is_loop Do = true
is_loop BreakLoop = false
is_loop Return = false

-- The kind of `break` and `continue`, which a flag tells apart.
abbrev pub is_break : Kind → Bool
is_break Noop = false
is_break Var = false
is_break Expr = false
is_break FnCall = false
is_break Assignment = false
is_break Block = false
is_break TryCatch = false
is_break For = false
is_break If = false
is_break While = false
is_break Do = false
is_break BreakLoop = true
is_break Return = false

-- A node of a loop.
abbrev pub loop_node : Node → Bool
loop_node n = known (kind_of n.kind) is_loop

-- A node of a `break` with a value.
abbrev pub valued_break : Node → Bool
valued_break n = known (kind_of n.kind) is_break && (flagged 8 n.flags && not (n.expr == 0))
