use Rattle.std.proofs.Common.{refl}
use Rattle.lowering.specs.View.{low}
use Rattle.lowering.proofs.state.Lowering.push_name.Goals as goal

pub returns-clause-did : goal.returns-clause-did
unfolding low
returns-clause-did c = c.push_name.ensures.did (low c.args.self.now) refl
