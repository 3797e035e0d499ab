-- Which loops have a break value.
use Rattle.std.specs.Prelude.{Bool, true, false, ◌||◌, Some, None, Option, is_some}
use Rattle.records.specs.Tree.{Head, Head.noop, Head.var, Head.expr, Head.call, Head.assign, Head.other, Head.block, Head.try, Head.for, Head.if, Head.while, Head.do_loop, Head.break, Head.continue, Head.return, Head.throw, Tree.node, Forest.nil, Forest.more, Stmt, Block}

-- Does a break with a value belong to the loop around? Not one inside another loop.
abbrev pub breaks_head : Head → Bool → Bool → Bool
breaks_head noop b c = false
breaks_head (var k x e r) b c = false
breaks_head (expr e) b c = false
breaks_head (call x i) b c = false
breaks_head (assign x e o p q) b c = false
breaks_head (other i) b c = false
breaks_head block b c = b
breaks_head (try x p) b c = b || c
breaks_head (for x e p) b c = false
breaks_head (if e) b c = b || c
breaks_head (while e p) b c = false
breaks_head (do_loop u e p) b c = false
breaks_head (break e) b c = is_some e
breaks_head continue b c = false
breaks_head (return e) b c = false
breaks_head (throw e p) b c = false

abbrev mutual
  pub breaks_s : Stmt → Bool
  breaks_s (node h B C) = breaks_head h (has_break_value B) (has_break_value C)

  pub has_break_value : Block → Bool
  has_break_value nil = false
  has_break_value (more s b) = breaks_s s || has_break_value b
