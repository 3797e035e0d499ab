use Rattle.std.proofs.Common.{ℕ, length, replicate, ap, ◌∙◌, arith}
use Rattle.records.specs.Tree.{records}
use Rattle.writers.specs.Write.{writer_for}
use Rattle.blanks.proofs.Blanked.{blanked}
use Rattle.setting.proofs.Done.{ends}
use Rattle.setting.proofs.call.set.Goals as goal

pub returns : goal.returns
returns g c =
    let W = writer_for (g.W.Writer.means c.args.writer.now) c.args.code.now.script c.args.code.now.names.now in
    let e = ends W (records c.args.code.now.script) c.args.code.now.names.now c.args.code.now.ops.now c.args.code.now.rows.now (length c.args.places.now) (length c.args.out.now) c.set_code-result.new.out c.blank_from.new.items c.unwrap_or.result
    c.set_code-result.auto.out c.blank_from.auto.items (rw c.bare.ensures at c.blank_from.ensures.past) (rw c.bare.ensures at c.blank_from.ensures.before) c.set_code-result.result c.unwrap_or.ensures c.set_code-result.ensures in
    record {
      answer = e.answer;
      code = e.code;
      forgotten = blanked 0 c.set_code-result.new.places c.blank_from-2.new.items 0 (omega arith) c.blank_from-2.auto.items c.blank_from-2.ensures.past c.blank_from-2.ensures.before
          ∙ ap (λ (k : ℕ). replicate k 0) (omega (arith, c.set_code-result.auto.places));
    }
