use Rattle.scavenge_laws.proofs.Tests.{slots_keep_graph}
use Rattle.scavenge_laws.proofs.laws.slots_keep_graph.Goals as goal

pub returns : goal.returns
returns c = slots_keep_graph
