use Rattle.std.proofs.Common.{arith, length}
use Rattle.std.proofs.lemmas.Grind.{common_steps}
use Rattle.records.specs.Tree.{records}
use Rattle.writers.specs.Write.{tables_for, writer_on}
use Rattle.setting.proofs.Segments.{segment-near}
use Rattle.setting.proofs.places.Setter.put_segment.Goals as goal

pub shift-requires-clause-near : goal.shift-requires-clause-near
shift-requires-clause-near g c =
    let n = c.args.self.now.named in
    let W = writer_on (g.W.Writer.means c.args.self.now.writer.now) n in
    let near = segment-near (tables_for n) (length n.script.exprs.now) W c.args.expr (g.met.W.Writer.lawful c.args.self.now.writer.now (records n.script) (tables_for n) n.checked) in
    grind (arith, common_steps, near, c.in_ok-length.ensures.answer, c.in_ok-length.ensures.after)
