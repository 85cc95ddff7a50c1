use Rattle.spur_heap.proofs.Flagged.{can_hash}
use Rattle.spur_heap.proofs.heap.Heap.put_hash.Goals as goal

pub put_header-requires-clause-can : goal.put_header-requires-clause-can
put_header-requires-clause-can c = can_hash c.args.self.now c.args.start c.set_hash-header.result.0 c.header.result.0 c.args.hash c.header.ensures.word c.requires.fits c.set_hash-header.ensures.word c.set_hash-header.ensures.fields c.requires.unentered
