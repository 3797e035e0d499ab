use Rattle.std.proofs.Common.{length, refl, rules}
use Rattle.std.proofs.lemmas.List.Recursion.{and_is}
use Rattle.meaning.specs.Machine.{no_row}
use Rattle.meaning.specs.SetCode.{row_fine, rows_fine}
use Rattle.setting.proofs.checks.rows_are_fine.Goals as goal

pub returns : goal.returns
returns c =
    let n = length c.args.code.now.script.exprs.now in
    and_is (rows_fine n) (row_fine n) refl (λ _ _. refl) c.args.code.now.rows.now no_row _ (search rules) (search rules)
