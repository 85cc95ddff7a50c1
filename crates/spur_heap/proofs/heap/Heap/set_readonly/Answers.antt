use Rattle.spur_heap.proofs.Flagged.{can_lock}
use Rattle.spur_heap.proofs.heap.Heap.set_readonly.Goals as goal

pub put_header-requires-clause-can : goal.put_header-requires-clause-can
put_header-requires-clause-can c = can_lock c.args.self.now c.args.start c.set_readonly-header.result.0 c.args.on c.header.result.0 c.bit.result c.header.ensures.word c.bit.ensures c.set_readonly-header.ensures.word c.set_readonly-header.ensures.fields
