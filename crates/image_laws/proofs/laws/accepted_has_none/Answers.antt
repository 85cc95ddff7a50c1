use Rattle.image_laws.proofs.Causes.{accepted_has_none}
use Rattle.image_laws.proofs.laws.accepted_has_none.Goals as goal

pub returns : goal.returns
returns c = accepted_has_none
