use Rattle.std.proofs.Common.{rules}
use Rattle.stack64.proofs.Stacks.{length-stack}
use Rattle.stack64.proofs.stack.Stack64.len.Goals as goal

pub returns : goal.returns
returns g c = search (rules, length-stack)
