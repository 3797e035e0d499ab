-- Both writers of the base keep the writers' law, for every expression and depth.
use Rattle.std.specs.Prelude.{◌≡◌, length}
use Rattle.std.proofs.Math.Option.{none}
use Rattle.records.specs.Tree.{Records}
use Rattle.records.specs.Checks.{checked}
use Rattle.meaning.specs.Fed.{Tables}
use Rattle.meaning.specs.Writer.{Lawful}
use Rattle.meaning.specs.Writers.{whole, writer}

-- Whole for all records; Written for records that the checks accept, since only their items are sure to be records.
abbrev pub WritersLawful : Type 0
WritersLawful = (T : Tables) (R : Records) → Lawful T (length R.exprs) (whole R) × (checked R ≡ none → Lawful T (length R.exprs) (writer T R))
