use Rattle.std.proofs.Common.{rules}
use Rattle.std.proofs.lemmas.List.{length-set}
use lib.Seq.{take-set-lt}
use Rattle.tables.proofs.stack.Stack.set.Goals as goal

pub returns-clause-did : goal.returns-clause-did
returns-clause-did g c = search (rules, take-set-lt, length-set)
