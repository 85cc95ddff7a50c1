use Rattle.planning_compactor.proofs.Ready.{row_is_ready}
use Rattle.planning_compactor.proofs.laws.row_is_ready.Goals as goal

pub returns : goal.returns
returns c = row_is_ready
