use Rattle.image_laws.proofs.Resolved.{resolved_is_same}
use Rattle.image_laws.proofs.laws.resolved_is_same.Goals as goal

pub returns : goal.returns
returns c = resolved_is_same
