use Rattle.std.proofs.Common.{ℕ, length, ◌∙◌, rules}
use borrow.Author.Tests.{tests}
use Rattle.records.specs.declared.types.Operator.{Operator}
use Rattle.records.specs.Tree.{no_operator}
use Rattle.records.specs.Checks.{both_named}
use Rattle.records.proofs.Bools.{all-each-placed}
use Rattle.records.proofs.checks.check_operators.Goals as goal

pub returns : goal.returns
returns c =
    let s = c.args.script.now in
    let test = λ (p : ℕ × Operator). both_named (length s.labels.now) p.1 in
    c.check_each.ensures test (λ i x r h. search (rules, tests)) ∙ all-each-placed test no_operator s.operators.now
