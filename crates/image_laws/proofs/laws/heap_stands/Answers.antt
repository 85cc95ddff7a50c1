use Rattle.image_laws.proofs.Whole.{heap_stands}
use Rattle.image_laws.proofs.laws.heap_stands.Goals as goal

pub returns : goal.returns
returns c = heap_stands
