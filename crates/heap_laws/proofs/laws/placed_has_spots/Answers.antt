use Rattle.heap_laws.proofs.Rooms.{placed_has_spots}
use Rattle.heap_laws.proofs.laws.placed_has_spots.Goals as goal

pub returns : goal.returns
returns c = placed_has_spots
