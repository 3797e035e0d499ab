use Rattle.std.proofs.Common.{rules, true, false}
use borrow.Author.Tests.{tests}
use Rattle.std.proofs.lemmas.Iterator.{IsFirst-from_position, YieldsList-from_slice}
use Rattle.records.specs.Tree.{records, name_of}
use Rattle.writers.proofs.Spelled.{Same, number-is}
use Rattle.writers.proofs.names.number_of.Goals as goal

pub returns : goal.returns
returns c =
    let R = records c.args.named.now.script in
    let b = (name_of R c.args.label).bytes in
    let e = number-is R b c.args.named.now.names.now c.position-place.result
    (IsFirst-from_position _ _ c.position-place.result (Same R b true) (Same R b false) c.position-place.ensures.ran (YieldsList-from_slice c.args.named.now.names.now (search rules)) (λ x q k. search (rules, tests)) (λ x q k. search (rules, tests))) in
    search (rules, e)
