use Rattle.scavenge_laws.proofs.Tests.{copy_keeps_graph}
use Rattle.scavenge_laws.proofs.laws.copy_keeps_graph.Goals as goal

pub returns : goal.returns
returns c = copy_keeps_graph
