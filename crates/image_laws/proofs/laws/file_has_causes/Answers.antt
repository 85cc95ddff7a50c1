use Rattle.image_laws.proofs.Rows.{file_has_causes}
use Rattle.image_laws.proofs.laws.file_has_causes.Goals as goal

pub returns : goal.returns
returns c = file_has_causes
