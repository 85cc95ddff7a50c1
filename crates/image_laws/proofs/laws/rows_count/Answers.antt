use Rattle.image_laws.proofs.Counted.{rows_count}
use Rattle.image_laws.proofs.laws.rows_count.Goals as goal

pub returns : goal.returns
returns c = rows_count
