use Rattle.std.proofs.Common.{ltb, rules, tests}
use Rattle.std.proofs.lemmas.Iterator.{YieldsList-from_slice}
use Rattle.std.proofs.lemmas.Iterator.Consumers.{count_from_yields_List}
use Rattle.std.proofs.lemmas.Iterator.Search.{YieldsList-from_take_while}
use Rattle.std.proofs.lemmas.List.Sums.{prefix_len-le-length}
use Rattle.records.specs.declared.types.Node.{Node}
use Rattle.intake.proofs.outline.leave.Goals as goal

pub returns : goal.returns
returns c =
    let on = λ (n : Node). ltb c.args.place n.end in
    let depth = count_from_yields_List c.take_while.result c.count-depth.result c.count-depth.ensures.ran (YieldsList-from_take_while _ on (YieldsList-from_slice c.args.around.now.items (cc)) c.take_while.ensures.closure c.take_while.ensures.done (λ x b q k. search (rules, tests))) in
    search (rules, depth, prefix_len-le-length on c.args.around.now.items)
