use Rattle.image_save.proofs.Denoting.{saved_denotes, saved_denotes_graph}
use Rattle.image_save.proofs.laws.saved_denotes.Goals as goal

pub returns-clause-heap : goal.returns-clause-heap
returns-clause-heap c = saved_denotes

pub returns-clause-graph : goal.returns-clause-graph
returns-clause-graph c = saved_denotes_graph
