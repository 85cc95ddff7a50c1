use Rattle.heap_laws.proofs.Wholes.{whole_is_ready}
use Rattle.heap_laws.proofs.laws.whole_is_ready.Goals as goal

pub returns : goal.returns
returns c = whole_is_ready
