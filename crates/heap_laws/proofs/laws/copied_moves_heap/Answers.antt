use Rattle.heap_laws.proofs.Heaps.{copied_moves_heap}
use Rattle.heap_laws.proofs.laws.copied_moves_heap.Goals as goal

pub returns : goal.returns
returns c = copied_moves_heap
