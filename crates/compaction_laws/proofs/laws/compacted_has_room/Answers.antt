use Rattle.compaction_laws.proofs.Rooms.{compacted_has_room}
use Rattle.compaction_laws.proofs.laws.compacted_has_room.Goals as goal

pub returns : goal.returns
returns c = compacted_has_room
