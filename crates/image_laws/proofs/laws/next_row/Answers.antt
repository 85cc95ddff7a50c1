use Rattle.image_laws.proofs.Causes.{next_row}
use Rattle.image_laws.proofs.laws.next_row.Goals as goal

pub returns : goal.returns
returns c = next_row
