use Rattle.std.proofs.Common.{◌≡◌, Some, None, sym, ◌∙◌, refl, rules}
use borrow.Author.Tests.{tests}
use Rattle.meaning.specs.Machine.{newest}
use Rattle.slot_memory.specs.Memory.{blank_slot}
use Rattle.slot_memory.proofs.Newest.{newest-none, newest-at}
use Rattle.slot_memory.proofs.find.Goals as goal

pub returns : goal.returns
returns c =
    elim c.rposition.result as (λ r. c.rposition.result ≡ r → c.rposition.result ≡ newest c.args.name c.args.slots.now) [
      | None ↦ λ e. e ∙ sym (newest-none c.args.name blank_slot c.args.slots.now (λ k h. search (rules, tests)))
      | Some i ↦ λ e. e ∙ sym (newest-at c.args.name i blank_slot c.args.slots.now (search (rules, tests)) (search (rules, tests)) (λ k p h. search (rules, tests)))
    ] refl
