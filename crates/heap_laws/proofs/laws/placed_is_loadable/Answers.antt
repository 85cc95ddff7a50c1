use Rattle.heap_laws.proofs.Heaps.{placed_is_loadable}
use Rattle.heap_laws.proofs.laws.placed_is_loadable.Goals as goal

pub returns : goal.returns
returns c = placed_is_loadable
