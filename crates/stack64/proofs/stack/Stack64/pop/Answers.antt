use Rattle.std.proofs.Common.{arith}
use Rattle.stack64.proofs.Stacks.{there, taken, length-stack}
use Rattle.stack64.proofs.stack.Stack64.pop.Goals as goal

pub overflow_sub-self : goal.overflow_sub-self
overflow_sub-self g c = there _ _ _ _ (omega arith) c.in_ok-x.ensures

pub returns : goal.returns
returns g c = (taken _ _ _ (omega arith) c.in_ok-x.ensures, omega (arith, length-stack))
