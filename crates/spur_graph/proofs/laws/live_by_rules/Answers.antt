use Rattle.spur_graph.proofs.Reaching.{live_by_rules}
use Rattle.spur_graph.proofs.laws.live_by_rules.Goals as goal

pub returns : goal.returns
returns c = live_by_rules
