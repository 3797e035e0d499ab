use Rattle.std.proofs.Common.{◌∙◌, sym, subst, arith}
use Rattle.stack64.specs.Listed.{listed}
use Rattle.stack64.specs.Moves.{Newest}
use Rattle.stack64.proofs.Stacks.{newest-last}
use Rattle.stack64.proofs.stack.Stack64.newest.Goals as goal

pub returns : goal.returns
returns g c = subst (Newest (listed c.args.self.now)) (sym (c.copied.ensures ∙ c.last.ensures.value)) (newest-last c.args.self.now.cells c.args.self.now.height (omega arith))
