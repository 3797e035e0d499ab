use Rattle.std.proofs.Common.{take, arith}
use Rattle.std.proofs.lemmas.Grind.{common_steps}
use Rattle.tables.proofs.Searches.{newest-is}
use Rattle.tables.proofs.distinct.newest.Goals as goal

pub returns-clause-is : goal.returns-clause-is
returns-clause-is g c =
    newest-is (g.T.Same.alike c.args.context.now) c.args.x.now (take c.args.stack.now.len c.args.stack.now.items.now) c.rposition.result (grind (arith, common_steps))
