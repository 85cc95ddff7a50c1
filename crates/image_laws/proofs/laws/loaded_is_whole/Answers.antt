use Rattle.image_laws.proofs.Whole.{loaded_is_whole}
use Rattle.image_laws.proofs.laws.loaded_is_whole.Goals as goal

pub returns : goal.returns
returns c = loaded_is_whole
