use Rattle.std.proofs.Common.{ℕ, ◌∙◌, rules}
use borrow.Author.Tests.{tests}
use Rattle.records.specs.declared.types.Expr.{Expr}
use Rattle.records.specs.Tree.{records, no_expr}
use Rattle.records.specs.Checks.{expr_stands}
use Rattle.records.proofs.Bools.{all-each-placed}
use Rattle.records.proofs.checks.check_exprs.Goals as goal

pub returns : goal.returns
returns c =
    let s = c.args.script.now in
    let test = λ (p : ℕ × Expr). expr_stands (records s) p.1 p.0 in
    c.check_each.ensures test (λ i x r h. search (rules, tests)) ∙ all-each-placed test no_expr s.exprs.now
