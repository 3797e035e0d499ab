use Rattle.stack64.proofs.Stacks.{stack-none}
use Rattle.stack64.proofs.stack.Stack64.new.Goals as goal

pub returns : goal.returns
returns g c = stack-none _
