use Rattle.std.proofs.Common.{◌≡◌, take}
use Rattle.meaning.specs.LowerState.{holding, patch_all}
use Rattle.tables.specs.Stacks.{SameLent, contents}
use Rattle.lowering.specs.Fit.{most, placed}
use Rattle.lowering.proofs.emitting.patch_all.Given as goal

abbrev pub invariant-loop-site : goal.invariant-loop-site
invariant-loop-site l =
    record {
      lent : SameLent most l.initial.code l.code;
      did : contents most l.code ≡ holding (patch_all (take l.site-index l.sites) l.target (contents most l.initial.code).held) (contents most l.initial.code);
      steady : placed l.code ≡ placed l.initial.code;
    }
