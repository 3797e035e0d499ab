use Rattle.std.proofs.Common.{ℕ, length, ◌∙◌, rules}
use borrow.Author.Tests.{tests}
use Rattle.records.specs.declared.types.Label.{Label}
use Rattle.records.specs.Tree.{no_label}
use Rattle.records.specs.Checks.{label_fits}
use Rattle.records.proofs.Bools.{all-each-placed}
use Rattle.records.proofs.checks.check_labels.Goals as goal

pub returns : goal.returns
returns c =
    let s = c.args.script.now in
    let test = λ (p : ℕ × Label). label_fits (length s.text.now) p.1 in
    c.check_each.ensures test (λ i x r h. search (rules, tests)) ∙ all-each-placed test no_label s.labels.now
