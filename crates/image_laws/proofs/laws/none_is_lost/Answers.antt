use Rattle.image_laws.proofs.Rows.{none_is_lost}
use Rattle.image_laws.proofs.laws.none_is_lost.Goals as goal

pub returns : goal.returns
returns c = none_is_lost
