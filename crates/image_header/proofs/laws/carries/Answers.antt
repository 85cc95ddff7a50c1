use Rattle.image_header.proofs.Headers.{carries}
use Rattle.image_header.proofs.laws.carries.Goals as goal

pub returns : goal.returns
returns c = carries
