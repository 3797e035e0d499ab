use Rattle.records.specs.Tree.{records}
use Rattle.records.proofs.Accepted.{by-tree, sound-if-ok}
use Rattle.records.proofs.checks.check.Goals as goal

pub returns-clause-tree : goal.returns-clause-tree
returns-clause-tree c = by-tree (records c.args.script.now) c.check_all.result c.check_all.ensures

pub returns-clause-sound : goal.returns-clause-sound
returns-clause-sound c = sound-if-ok (records c.args.script.now) c.check_all.result c.check_all.ensures
