use Rattle.image_laws.proofs.Causes.{any_is_least}
use Rattle.image_laws.proofs.laws.any_is_least.Goals as goal

pub returns : goal.returns
returns c = any_is_least
