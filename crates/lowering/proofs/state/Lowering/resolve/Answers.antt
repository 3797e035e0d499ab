use Rattle.std.proofs.Common.{refl}
use Rattle.lowering.specs.View.{low}
use Rattle.lowering.proofs.state.Lowering.resolve.Goals as goal

pub returns : goal.returns
unfolding low
returns c = c.resolve.ensures (low c.args.self.now) refl
