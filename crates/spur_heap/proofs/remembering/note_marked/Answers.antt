use Rattle.std.proofs.Common.{arith}
use Rattle.spur_heap.specs.Parts.{view_of}
use Rattle.spur_heap.proofs.Hops.{start_at}
use Rattle.spur_heap.proofs.Noted.{not_there, has_place}
use Rattle.spur_heap.proofs.remembering.note_marked.Goals as goal

pub get-requires : goal.get-requires
get-requires c = let low = (start_at (view_of c.args.parts.now) c.requires.can.sound c.args.start c.requires.can.there).below in omega (arith, low)

pub add-requires-clause-below : goal.add-requires-clause-below
add-requires-clause-below c =
    let low = (start_at (view_of c.args.parts.now) c.requires.can.sound c.args.start c.requires.can.there).below in
    let few = c.requires.can.sound.few in
    omega (arith, low, few)

pub add-requires-clause-absent : goal.add-requires-clause-absent
add-requires-clause-absent c = not_there c.args.parts.now.remembered.starts c.args.start c.requires.absent

pub add-requires-clause-room : goal.add-requires-clause-room
add-requires-clause-room c = has_place c.args.parts.now c.args.start c.requires.can c.requires.absent
