use Rattle.scavenge_laws.proofs.Tests.{forwarder_keeps_graph}
use Rattle.scavenge_laws.proofs.laws.forwarder_keeps_graph.Goals as goal

pub returns : goal.returns
returns c = forwarder_keeps_graph
