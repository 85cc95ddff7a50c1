use Rattle.heap_laws.proofs.HeapRooms.{heap_has_spots}
use Rattle.heap_laws.proofs.laws.heap_has_spots.Goals as goal

pub returns : goal.returns
returns c = heap_has_spots
