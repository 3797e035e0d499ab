use Rattle.std.proofs.Common.{◌≡◌, Bool, cond, ap, ◌∙◌, arith, rules, of_calls}
use mathlib.Core.Option.{Option, none, some}
use Rattle.std.proofs.lemmas.Iterator.{YieldsList-from_slice}
use Rattle.std.proofs.lemmas.Iterator.Adapters.{YieldsList-from_skip, serves_from_places}
use Rattle.std.proofs.lemmas.Iterator.Consumers.{YieldsList-from_enumerate}
use Rattle.std.proofs.lemmas.Iterator.Search.{all_from_yields_List}
use Rattle.records.specs.Checks.{answered}
use Rattle.records.proofs.Bools.{place-within}
use Rattle.records.proofs.checks.check_each.Goals as goal

pub all-sound-requires-clause-callable : goal.all-sound-requires-clause-callable
all-sound-requires-clause-callable g c =
    serves_from_places (YieldsList-from_skip 1 (YieldsList-from_enumerate (YieldsList-from_slice c.args.table.now cc) cc) cc)
    (λ x q k. search (rules, of_calls))
    (λ x k l e. c.requires x.0 x.1 (let w = place-within c.args.table.now _ k l e in omega arith))

pub returns : goal.returns
returns g c = λ test h.
    let told : answered c.ok_or.result ≡ cond c.all-sound.result none (some 11) = search rules in
    told ∙ ap (λ (b : Bool). cond {A = Option _} b none (some 11))
    (all_from_yields_List test _ _ c.all-sound.result c.all-sound.ensures.ran
    (YieldsList-from_skip 1 (YieldsList-from_enumerate (YieldsList-from_slice c.args.table.now cc) cc) cc)
    (λ x b q k. (search (rules, of_calls), h x.0 x.1 b (search (rules, of_calls)))))
