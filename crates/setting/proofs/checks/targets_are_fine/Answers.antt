use Rattle.std.proofs.Common.{length, refl, rules}
use Rattle.std.proofs.lemmas.List.Recursion.{and_is}
use Rattle.meaning.specs.SetCode.{target_of, target_fine, targets_fine}
use Rattle.setting.specs.Set.{blank}
use Rattle.setting.proofs.checks.targets_are_fine.Goals as goal

pub returns : goal.returns
returns c =
    let n = length c.args.ops.now in
    and_is (targets_fine n) (λ x. target_fine n (target_of x.op)) refl (λ _ _. refl) c.args.ops.now blank _ (search rules) (search rules)
