use Rattle.image_header.proofs.Headers.{written_by}
use Rattle.image_header.proofs.header.write.Goals as goal

pub returns : goal.returns
returns c = written_by c.args.header.now _ _ _ _ _ _ _ c.put32.ensures c.put64.ensures c.put64-2.ensures c.put64-3.ensures c.put64-4.ensures c.put64-5.ensures c.put64-6.ensures
