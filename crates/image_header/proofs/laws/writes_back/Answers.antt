use Rattle.image_header.proofs.Headers.{writes_back}
use Rattle.image_header.proofs.laws.writes_back.Goals as goal

pub returns : goal.returns
returns c = writes_back
