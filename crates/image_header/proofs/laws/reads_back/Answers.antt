use Rattle.image_header.proofs.Headers.{reads_back}
use Rattle.image_header.proofs.laws.reads_back.Goals as goal

pub returns : goal.returns
returns c = reads_back
