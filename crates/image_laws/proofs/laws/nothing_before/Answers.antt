use Rattle.image_laws.proofs.Causes.{nothing_before}
use Rattle.image_laws.proofs.laws.nothing_before.Goals as goal

pub returns : goal.returns
returns c = nothing_before
