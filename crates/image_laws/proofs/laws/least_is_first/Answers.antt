use Rattle.image_laws.proofs.Causes.{least_is_first}
use Rattle.image_laws.proofs.laws.least_is_first.Goals as goal

pub returns : goal.returns
returns c = least_is_first
