use Rattle.image_laws.proofs.Accepted.{accepted_is_closed}
use Rattle.image_laws.proofs.laws.accepted_is_closed.Goals as goal

pub returns : goal.returns
returns c = accepted_is_closed
