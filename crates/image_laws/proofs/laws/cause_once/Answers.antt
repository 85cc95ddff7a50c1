use Rattle.image_laws.proofs.Causes.{cause_once}
use Rattle.image_laws.proofs.laws.cause_once.Goals as goal

pub returns : goal.returns
returns c = cause_once
