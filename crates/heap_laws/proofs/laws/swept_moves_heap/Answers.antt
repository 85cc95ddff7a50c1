use Rattle.heap_laws.proofs.Heaps.{swept_moves_heap}
use Rattle.heap_laws.proofs.laws.swept_moves_heap.Goals as goal

pub returns : goal.returns
returns c = swept_moves_heap
