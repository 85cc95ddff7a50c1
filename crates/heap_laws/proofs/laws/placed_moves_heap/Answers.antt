use Rattle.heap_laws.proofs.Heaps.{placed_moves_heap}
use Rattle.heap_laws.proofs.laws.placed_moves_heap.Goals as goal

pub returns : goal.returns
returns c = placed_moves_heap
