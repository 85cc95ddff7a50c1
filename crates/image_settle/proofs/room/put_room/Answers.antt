use Rattle.std.proofs.Common.{arith}
use Rattle.image_settle.proofs.Rooms.{no_room_among, has_room_among}
use Rattle.image_settle.proofs.room.put_room.Goals as goal

pub returns-then-room-ne0-clause-heap : goal.returns-then-room-ne0-clause-heap
returns-then-room-ne0-clause-heap c = λ h k.
    has_room_among h c.args.region.now c.put_chunk.new.region c.args.at c.args.room (omega arith) (omega (arith, c.put_chunk.ensures.same_len)) c.put_chunk.ensures.before c.put_chunk.ensures.room k

pub returns-else-room-ne0-clause-heap : goal.returns-else-room-ne0-clause-heap
returns-else-room-ne0-clause-heap c = λ h k. no_room_among h c.args.region.now c.args.at c.args.room c.if-room-ne0.false k
