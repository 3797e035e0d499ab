use Rattle.std.proofs.Common.{rules}
use Rattle.stack64.proofs.Stacks.{stack_push, length-stack}
use Rattle.stack64.proofs.stack.Stack64.push.Goals as goal

pub returns-then-self-eq64 : goal.returns-then-self-eq64
returns-then-self-eq64 g c = search (rules, length-stack)

pub returns : goal.returns
returns g c = search (rules, length-stack, stack_push)
