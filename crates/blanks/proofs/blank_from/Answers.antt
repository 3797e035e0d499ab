use Rattle.std.proofs.Common.{rules}
use Rattle.std.proofs.lemmas.List.{places}
use Rattle.blanks.proofs.Blanked.{blank_more}
use Rattle.blanks.proofs.blank_from.Goals as goal

pub loop-item-preserved : goal.loop-item-preserved
loop-item-preserved g c = blank_more c.loop-item.item-items c.args.blank c.loop-item.item-index (search rules) c.loop-item.invariant

pub returns-clause-past : goal.returns-clause-past
returns-clause-past g c = λ k h l. search (rules, places)
