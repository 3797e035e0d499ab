use Rattle.std.proofs.Common.{◌≤◌, length, ◌∙◌, arith, rules}
use Rattle.std.proofs.lemmas.Result.{err_from_is_err_and}
use Rattle.records.specs.Tree.{records}
use Rattle.records.specs.Numbers.{number_of}
use Rattle.writers.specs.Write.{writer_for}
use Rattle.setting.proofs.Faults.{fails, passes}
use Rattle.setting.proofs.Done.{targets-more, place-within, set-stands}
use Rattle.setting.proofs.call.set_code.Goals as goal

pub returns-in_err-check : goal.returns-in_err-check
returns-in_err-check g c =
    let W = writer_for (g.W.Writer.means c.args.writer.now) c.args.code.now.script c.args.code.now.names.now in
    let p = err_from_is_err_and c.from_residual.result c.from_residual.ensures.1 in
    rw (p.1, p.2)
    (fails (records c.args.code.now.script) c.args.code.now.names.now c.args.code.now.ops.now c.args.code.now.rows.now (length c.args.out.now) (length c.args.places.now) W (number_of c.in_err-check.field-0.0) c.in_err-check.ensures)

pub returns-in_err-count : goal.returns-in_err-count
returns-in_err-count g c =
    let W = writer_for (g.W.Writer.means c.args.writer.now) c.args.code.now.script c.args.code.now.names.now in
    let p = err_from_is_err_and c.from_residual-in_err-count.result c.from_residual-in_err-count.ensures.1 in
    rw (p.1, p.2)
    (passes (records c.args.code.now.script) c.args.code.now.names.now c.args.code.now.ops.now c.args.code.now.rows.now (length c.args.out.now) (length c.args.places.now) W c.in_ok-check.ensures ∙ c.in_err-count.ensures)

pub move_targets-requires-clause-targets : goal.move_targets-requires-clause-targets
move_targets-requires-clause-targets g c =
    let ops = c.args.code.now.ops.now in
    let remembered : length ops ≤ length c.args.places.now = search rules in
    targets-more (length ops) (length c.put_pieces.new.places) (omega (arith, c.put_pieces.auto.places)) ops (search rules)

pub move_targets-requires-clause-within : goal.move_targets-requires-clause-within
move_targets-requires-clause-within g c =
    let W = writer_for (g.W.Writer.means c.args.writer.now) c.args.code.now.script c.args.code.now.names.now in
    let put = c.in_ok-count.ensures in
    place-within W c.args.code.now.rows.now c.args.code.now.ops.now c.put_pieces.new.places c.in_ok-count.count c.put_pieces.new.out put.1 (omega (arith, put.2, c.put_pieces.auto.out)) put.3

pub returns : goal.returns
returns g c =
    let W = writer_for (g.W.Writer.means c.args.writer.now) c.args.code.now.script c.args.code.now.names.now in
    let R = records c.args.code.now.script in
    let ops = c.args.code.now.ops.now in
    let put = c.in_ok-count.ensures in (
      passes R c.args.code.now.names.now ops c.args.code.now.rows.now (length c.args.out.now) (length c.args.places.now) W c.in_ok-check.ensures ∙ put.0,
      put.2,
      set-stands W c.args.code.now.rows.now ops c.put_pieces.new.places c.in_ok-count.count c.put_pieces.new.out put.1 (omega (arith, put.2, c.put_pieces.auto.out)) put.3
          (search rules) c.move_targets.new.out c.move_targets.ensures,
    )
