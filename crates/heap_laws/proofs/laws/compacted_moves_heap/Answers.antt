use Rattle.heap_laws.proofs.Heaps.{compacted_moves_heap}
use Rattle.heap_laws.proofs.laws.compacted_moves_heap.Goals as goal

pub returns : goal.returns
returns c = compacted_moves_heap
