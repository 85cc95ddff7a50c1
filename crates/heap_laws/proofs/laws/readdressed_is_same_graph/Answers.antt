use Rattle.heap_laws.proofs.Heaps.{readdressed_is_same_graph}
use Rattle.heap_laws.proofs.laws.readdressed_is_same_graph.Goals as goal

pub returns : goal.returns
returns c = readdressed_is_same_graph
