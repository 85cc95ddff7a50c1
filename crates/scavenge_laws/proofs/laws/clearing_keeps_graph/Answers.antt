use Rattle.scavenge_laws.proofs.Tests.{clearing_keeps_graph}
use Rattle.scavenge_laws.proofs.laws.clearing_keeps_graph.Goals as goal

pub returns : goal.returns
returns c = clearing_keeps_graph
