use Rattle.spur_graph.proofs.Renaming.{itself}
use Rattle.spur_graph.proofs.laws.keeps_names.Goals as goal

pub returns : goal.returns
returns c = itself
