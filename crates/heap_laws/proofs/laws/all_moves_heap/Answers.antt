use Rattle.heap_laws.proofs.Heaps.{all_moves_heap}
use Rattle.heap_laws.proofs.laws.all_moves_heap.Goals as goal

pub returns : goal.returns
returns c = all_moves_heap
