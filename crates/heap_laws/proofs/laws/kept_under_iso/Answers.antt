use Rattle.heap_laws.proofs.Graphs.{kept_under_iso}
use Rattle.heap_laws.proofs.laws.kept_under_iso.Goals as goal

pub returns : goal.returns
returns c = kept_under_iso
