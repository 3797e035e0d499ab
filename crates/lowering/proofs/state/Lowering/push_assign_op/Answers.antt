use Rattle.std.proofs.Common.{refl}
use Rattle.lowering.specs.View.{low}
use Rattle.lowering.proofs.state.Lowering.push_assign_op.Goals as goal

pub returns-clause-did : goal.returns-clause-did
unfolding low
returns-clause-did c = c.push_assign_op.ensures.did (low c.args.self.now) refl
