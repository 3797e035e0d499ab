use Rattle.std.proofs.Common.{get_or, sym, arith, rules}
use Rattle.std.proofs.lemmas.Grind.{common_steps}
use Rattle.meaning.specs.SetCode.{expr_of}
use Rattle.meaning.proofs.Setting.{place-zero, place-suc, piece-length}
use Rattle.writers.specs.Write.{writer_on}
use Rattle.setting.specs.Set.{blank}
use Rattle.setting.proofs.Pieces.{code-on}
use Rattle.setting.proofs.places.Setter.put_pieces.Goals as goal

pub loop-i-init : goal.loop-i-init
loop-i-init g c =
    let W = writer_on (g.W.Writer.means c.args.self.now.writer.now) c.args.self.now.named in
    record {
      within = search rules;
      stand = search rules;
      faults = grind (arith, common_steps);
      here = sym (place-zero W c.args.self.now.rows.now c.args.ops.now);
      before = search rules;
    }

pub loop-i-preserved : goal.loop-i-preserved
loop-i-preserved g c =
    let W = writer_on (g.W.Writer.means c.args.self.now.writer.now) c.args.self.now.named in
    let rows = c.args.self.now.rows.now in
    let ops = c.args.ops.now in
    let h = c.loop-i-test.true in
    let put = c.in_ok-at.ensures in
    let x = get_or ops c.loop-i.i blank in
    record {
      within = omega (arith, put.2);
      stand = code-on W rows ops c.loop-i.i h (λ t. t) c.loop-i.at c.in_ok-at.at c.loop-i.out c.put_piece.new.out c.loop-i.invariant.within put.1 put.3
          (piece-length W rows (λ t. t) 0 c.loop-i.at x (expr_of rows x.op)) _ c.loop-i.invariant.stand;
      faults = grind (arith, common_steps, put.0, put.1, put.2);
      here = grind (arith, common_steps, put.1, place-suc W rows ops c.loop-i.i h);
      before = grind (arith, common_steps);
    }
