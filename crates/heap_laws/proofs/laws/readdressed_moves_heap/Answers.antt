use Rattle.heap_laws.proofs.Heaps.{readdressed_moves_heap}
use Rattle.heap_laws.proofs.laws.readdressed_moves_heap.Goals as goal

pub returns : goal.returns
returns c = readdressed_moves_heap
