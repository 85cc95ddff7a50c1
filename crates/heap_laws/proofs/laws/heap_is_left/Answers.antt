use Rattle.heap_laws.proofs.Wholes.{heap_is_left}
use Rattle.heap_laws.proofs.laws.heap_is_left.Goals as goal

pub returns : goal.returns
returns c = heap_is_left
