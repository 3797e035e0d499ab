use Rattle.std.proofs.Common.{◌≡◌, suc, ◌+◌, ◌-◌, arith, rules}
use Rattle.lowering.proofs.state.Lowering.emit_times.Goals as goal

pub loop-i-preserved : goal.loop-i-preserved
loop-i-preserved c =
    let more : c.args.times - c.loop-i._i ≡ suc (c.args.times - (c.loop-i._i + 1)) = omega arith in
    record { lent = search rules; did = search (rules, more); only = search rules }

pub returns-in_err-emit-clause-did : goal.returns-in_err-emit-clause-did
returns-in_err-emit-clause-did c =
    let more : c.args.times - c.loop-i._i ≡ suc (c.args.times - (c.loop-i._i + 1)) = omega arith in search (rules, more)
