use Rattle.image_laws.proofs.Named.{file_has_names}
use Rattle.image_laws.proofs.laws.file_has_names.Goals as goal

pub returns : goal.returns
returns c = file_has_names
