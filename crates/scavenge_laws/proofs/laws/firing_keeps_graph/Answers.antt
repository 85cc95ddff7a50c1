use Rattle.scavenge_laws.proofs.Tests.{firing_keeps_graph}
use Rattle.scavenge_laws.proofs.laws.firing_keeps_graph.Goals as goal

pub returns : goal.returns
returns c = firing_keeps_graph
