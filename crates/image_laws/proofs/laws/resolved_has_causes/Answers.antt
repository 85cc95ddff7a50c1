use Rattle.image_laws.proofs.Rows.{resolved_has_causes}
use Rattle.image_laws.proofs.laws.resolved_has_causes.Goals as goal

pub returns : goal.returns
returns c = resolved_has_causes
