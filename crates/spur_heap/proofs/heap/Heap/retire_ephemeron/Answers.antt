use Rattle.std.proofs.Common.{◌∙◌, arith}
use Rattle.spur_heap.proofs.Flagged.{can_retire}
use Rattle.spur_heap.proofs.heap.Heap.retire_ephemeron.Goals as goal

pub put_header-requires-clause-can : goal.put_header-requires-clause-can
put_header-requires-clause-can c =
    let plain = c.header.ensures.format ∙ c.requires.ephemeron in
    can_retire c.args.self.now c.args.start c.set_format-header.result.0 c.header.result.0 c.header.ensures.word (omega (arith, plain)) c.set_format-header.ensures.word c.set_format-header.ensures.fields
