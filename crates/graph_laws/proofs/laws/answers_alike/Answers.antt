use Rattle.graph_laws.proofs.Outcomes.{answers_alike}
use Rattle.graph_laws.proofs.laws.answers_alike.Goals as goal

pub returns : goal.returns
returns c = answers_alike
