use Rattle.std.proofs.Common.{◌≡◌, ℕ, zero, suc, ◌+◌, ◌<◌, List, [], ◌∷◌, length, get_or, take, refl, add-one, arith, rules}
use Rattle.code.specs.declared.ops.Instr.{Instr}
use Rattle.meaning.specs.LowerState.{patch, patch_all}
use Rattle.tables.specs.Stacks.{contents}
use Rattle.lowering.specs.Fit.{most}
use Rattle.lowering.proofs.emitting.patch_all.Goals as goal

-- one place more
more : (sites : List ℕ) (k t d : ℕ) (ops : List Instr) → k < length sites → patch_all (take (k + 1) sites) t ops ≡ patch (get_or sites k d) t (patch_all (take k sites) t ops)
more [] k t d ops h = absurd (omega arith)
more (x ∷ xs) zero t d ops h = refl
more (x ∷ xs) (suc k) t d ops h = rw add-one (rw add-one at (more xs k t d (patch x t ops) (omega arith)))

pub loop-site-preserved : goal.loop-site-preserved
loop-site-preserved c =
    let e = more c.args.sites.now c.loop-site.site-index c.args.target 0 (contents most c.args.code.now).held c.loop-site-test.true in
    record { lent = search rules; did = search (rules, e); steady = search rules }
