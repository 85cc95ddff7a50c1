use Rattle.heap_laws.proofs.Graphs.{placed_is_same_graph}
use Rattle.heap_laws.proofs.laws.placed_is_same_graph.Goals as goal

pub returns : goal.returns
returns c = placed_is_same_graph
