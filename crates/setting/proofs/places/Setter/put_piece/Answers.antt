use Rattle.std.proofs.Common.{◌+◌, set, None, Ok}
use Rattle.writers.specs.Write.{writer_on}
use Rattle.setting.proofs.Pieces.{piece-as, piece-alone}
use Rattle.setting.proofs.places.Setter.put_piece.Goals as goal

pub returns : goal.returns
returns g c =
    let W = writer_on (g.W.Writer.means c.args.self.now.writer.now) c.args.self.now.named in
    piece-as W c.args.self.now.rows.now c.args.x c.args.at c.args.out.now None (Ok (c.args.at + 1)) (set c.args.out.now c.args.at c.args.x) c.in_default.ensures
    (piece-alone W c.args.self.now.rows.now c.args.x c.args.at c.args.out.now c.if-at-out.false)
