use Rattle.heap_laws.proofs.HeapRooms.{zoned_spots}
use Rattle.heap_laws.proofs.laws.zoned_spots.Goals as goal

pub returns : goal.returns
returns c = zoned_spots
