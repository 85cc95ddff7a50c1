use Rattle.heap_laws.proofs.Graphs.{all_are_kept}
use Rattle.heap_laws.proofs.laws.all_are_kept.Goals as goal

pub returns : goal.returns
returns c = all_are_kept
