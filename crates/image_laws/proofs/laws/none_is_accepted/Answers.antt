use Rattle.image_laws.proofs.Causes.{none_is_accepted}
use Rattle.image_laws.proofs.laws.none_is_accepted.Goals as goal

pub returns : goal.returns
returns c = none_is_accepted
