use Rattle.spur_heap.proofs.Flagged.{can_pin}
use Rattle.spur_heap.proofs.heap.Heap.set_pinned.Goals as goal

pub put_header-requires-clause-can : goal.put_header-requires-clause-can
put_header-requires-clause-can c = can_pin c.args.self.now c.args.start c.set_pinned-header.result.0 c.args.on c.header.result.0 c.bit.result c.header.ensures.word c.bit.ensures c.set_pinned-header.ensures.word c.set_pinned-header.ensures.fields c.requires.old
