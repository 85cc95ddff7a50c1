use Rattle.heap_laws.proofs.Rooms.{placed_is_same_room}
use Rattle.heap_laws.proofs.laws.placed_is_same_room.Goals as goal

pub returns : goal.returns
returns c = placed_is_same_room
