use Rattle.stack64.specs.Listed.{listed}
use Rattle.lowering.specs.Fit.{placed}
use Rattle.lowering.proofs.Around.{counted-popped}
use Rattle.lowering.proofs.state.Lowering.end_loop.Goals as goal

pub invariant_of-self : goal.invariant_of-self
invariant_of-self c =
    let a = c.args.self.now in
    record { counted = counted-popped (placed a.code.now) (listed a.loops) c.pop.result (listed c.pop.new.self) c.pop.ensures a.counted; iterated = a.iterated; handled = a.handled }
