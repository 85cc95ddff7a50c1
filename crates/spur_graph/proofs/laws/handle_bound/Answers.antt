use Rattle.spur_graph.proofs.Holding.{held-bind}
use Rattle.spur_graph.proofs.laws.handle_bound.Goals as goal

pub returns : goal.returns
returns c = held-bind
