use Rattle.heap_laws.proofs.Graphs.{kept_by_name}
use Rattle.heap_laws.proofs.laws.kept_by_name.Goals as goal

pub returns : goal.returns
returns c = kept_by_name
