use Rattle.heap_laws.proofs.Pairs.{places_pair}
use Rattle.heap_laws.proofs.laws.places_pair.Goals as goal

pub returns : goal.returns
returns c = places_pair
