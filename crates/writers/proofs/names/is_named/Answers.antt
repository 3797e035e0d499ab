use Rattle.std.proofs.Common.{sym, ap, ◌∙◌}
use Rattle.std.proofs.lemmas.Slice.Eq.{slice_eq-Decides}
use Rattle.std.proofs.lemmas.Bool.Decides.{Decides-eqb}
use Rattle.meaning.specs.Reading.{Bytes, same_bytes}
use Rattle.writers.proofs.Spelled.{same_test}
use Rattle.writers.proofs.names.is_named.Goals as goal

pub returns : goal.returns
returns c = sym (same_test c.name.result.now c.args.name.now _ (slice_eq-Decides Decides-eqb _ _ _ c.eq.ensures)) ∙ ap (λ (b : Bytes). same_bytes b c.args.name.now) c.name.ensures
