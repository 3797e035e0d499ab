use Rattle.meaning.proofs.Bridge.{lowering-stands}
use Rattle.meaning.proofs.Together.{whole}
use Rattle.meaning.proofs.player_agrees.Goals as goal

pub returns : goal.returns
returns c = whole lowering-stands
