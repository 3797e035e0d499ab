use Rattle.std.proofs.Common.{◌-◌, take, drop, arith}
use Rattle.records.specs.Tree.{records}
use Rattle.writers.proofs.Weights.{weigh-part, capped}
use Rattle.writers.proofs.sizes.items_size.Goals as goal

pub returns : goal.returns
returns c =
    let items = take (c.args.to - c.args.from) (drop c.args.from c.args.script.now.exprs.now) in
    rw (weigh-part (records c.args.script.now) (c.args.to - c.args.from) c.args.from (omega arith), c.weights.ensures, c.min.ensures) (capped items)
