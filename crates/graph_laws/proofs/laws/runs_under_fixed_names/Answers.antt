use Rattle.graph_laws.proofs.Runs.{runs_under_fixed_names}
use Rattle.graph_laws.proofs.laws.runs_under_fixed_names.Goals as goal

pub returns : goal.returns
returns c = runs_under_fixed_names
