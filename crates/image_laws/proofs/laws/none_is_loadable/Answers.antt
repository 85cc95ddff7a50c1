use Rattle.image_laws.proofs.Rows.{none_is_loadable}
use Rattle.image_laws.proofs.laws.none_is_loadable.Goals as goal

pub returns : goal.returns
returns c = none_is_loadable
