use Rattle.image_checks.proofs.Resolved.{keeps-five}
use Rattle.image_checks.proofs.laws.keeps_five.Goals as goal

pub returns : goal.returns
returns c = keeps-five
