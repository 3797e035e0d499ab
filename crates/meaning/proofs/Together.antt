-- The parts put together: accepted lowering stands, setting moves it, the fed player follows the tree, and so after every
-- list of calls both agree.
use Rattle.std.proofs.Common.{length, arith}
use Rattle.records.specs.Accepts.{tree_of}
use Rattle.records.proofs.Accepted.{one-tree}
use Rattle.meaning.specs.Compiled.{tables}
use Rattle.meaning.specs.SetCode.{set_code}
use Rattle.meaning.specs.Whole.{WholeAgreement}
use Rattle.meaning.proofs.Lowered.{LoweringStands}
use Rattle.meaning.proofs.SpelledTree.{spelled-tree, deep-height}
use Rattle.meaning.proofs.Accepts.{fits-room, all_known, set-accepts}
use Rattle.meaning.proofs.Setting.{setting_stands}
use Rattle.meaning.proofs.Sim.{simulation}
use Rattle.meaning.proofs.CallsAgree.{agreement}
use Rattle.meaning.proofs.Declines.{declining, count-right}
use Rattle.meaning.proofs.Suited.{calls-suited}

pub whole : LoweringStands → WholeAgreement
whole lowers R m s W room code_room places accepted lowered law set fit =
    let B = tree_of R in
    let ops = s.code.held in
    let rows = s.rows.held in
    let T = tables R s in
    let L = lowers R m B s (spelled-tree R) lowered in
    let A = set-accepts W rows R ops code_room places set in
    let M = setting_stands ops rows T W s.deepest room L.heights R.keep B (all_known W rows code_room ops A.1) A.0 (fits-room room s.deepest fit) L.code in
    let d = (one-tree R accepted).stands.depth in
    let h = deep-height B in
    let code = set_code W rows ops in
    let n = length T.names in
    record {
      agreement = agreement ops rows T W room R.keep B M L.distinct
          (simulation code rows T W room M.heights M.outside (length R.exprs) R.keep B law L.distinct (omega arith) M.stands);
      declines = λ cs c. declining code rows n c _;
      counts = λ cs k. count-right code rows n k _;
      suited = λ cs. calls-suited code rows n room cs;
    }
