use Rattle.image_laws.proofs.Named.{file_is_named}
use Rattle.image_laws.proofs.laws.file_is_named.Goals as goal

pub returns : goal.returns
returns c = file_is_named
