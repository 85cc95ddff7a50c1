use Rattle.scavenge_laws.proofs.Tests.{roots_keep_graph}
use Rattle.scavenge_laws.proofs.laws.roots_keep_graph.Goals as goal

pub returns : goal.returns
returns c = roots_keep_graph
