use Rattle.heap_laws.proofs.SameRoom.{settled_is_same_room}
use Rattle.heap_laws.proofs.laws.settled_is_same_room.Goals as goal

pub returns : goal.returns
returns c = settled_is_same_room
