use Rattle.std.proofs.Common.{arith}
use Rattle.stack64.proofs.Stacks.{there, replaced}
use Rattle.stack64.proofs.stack.Stack64.replace_newest.Goals as goal

pub overflow_sub-x : goal.overflow_sub-x
overflow_sub-x g c = there _ _ _ _ (omega arith) c.in_ok-newest.ensures

pub returns : goal.returns
returns g c = (c.in_ok-newest.ensures, replaced _ _ _ _ (omega arith) c.in_ok-newest.ensures)
