use Rattle.std.proofs.Common.{rules}
use Rattle.stack64.specs.Listed.{stack}
use Rattle.std.proofs.lemmas.List.{reverse-reverse}
use Rattle.stack64.proofs.stack.Stack64.as_slice.Goals as goal

pub returns : goal.returns
unfolding stack
returns g c = search (rules, reverse-reverse)
