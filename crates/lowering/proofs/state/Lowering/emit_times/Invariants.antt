use Rattle.std.proofs.Common.{◌≡◌, ◌-◌}
use Rattle.meaning.specs.Lower.{emits}
use Rattle.lowering.specs.View.{Lent, low, parts}
use Rattle.lowering.proofs.state.Lowering.emit_times.Given as goal

abbrev pub invariant-loop-i : goal.invariant-loop-i
invariant-loop-i l =
    record {
      lent : Lent l.initial.self l.self;
      did : emits l.times l.op (low l.initial.self) ≡ emits (l.times - l._i) l.op (low l.self);
      only : parts l.self ≡ record (parts l.initial.self) { code = l.self.code };
    }
