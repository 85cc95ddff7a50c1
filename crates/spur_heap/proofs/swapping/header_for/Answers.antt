use Rattle.spur_heap.specs.Parts.{view_of}
use Rattle.spur_heap.proofs.Headers.{header_inside}
use Rattle.spur_heap.proofs.swapping.header_for.Goals as goal

pub get-requires-2 : goal.get-requires-2
get-requires-2 c = header_inside (view_of c.args.parts.now) c.requires.sound c.args.other c.requires.there 0
