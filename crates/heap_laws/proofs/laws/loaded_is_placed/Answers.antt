use Rattle.heap_laws.proofs.Heaps.{loaded_is_placed}
use Rattle.heap_laws.proofs.laws.loaded_is_placed.Goals as goal

pub returns : goal.returns
returns c = loaded_is_placed
