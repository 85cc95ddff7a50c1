use Rattle.heap_cells.proofs.Closed.{loadable_is_closed}
use Rattle.heap_cells.proofs.laws.loadable_is_closed.Goals as goal

pub returns : goal.returns
returns c = loadable_is_closed
