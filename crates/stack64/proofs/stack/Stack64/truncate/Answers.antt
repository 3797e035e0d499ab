use Rattle.std.proofs.Common.{rules}
use Rattle.stack64.proofs.Stacks.{stack-min}
use Rattle.stack64.proofs.stack.Stack64.truncate.Goals as goal

pub returns : goal.returns
returns g c = search (rules, stack-min)
