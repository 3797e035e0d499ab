use Rattle.records.proofs.Accepted.{sound}
use Rattle.meaning.proofs.WritersLaw.{whole-lawful, written-lawful, sound-items}
use Rattle.meaning.proofs.lawful_writers.Goals as goal

pub returns : goal.returns
returns c T R = (whole-lawful T R, λ e. written-lawful T R (sound-items R (sound R e)))
