use Rattle.spur_heap.specs.Parts.{view_of}
use Rattle.spur_heap.proofs.Contents.{header_takes}
use Rattle.spur_heap.proofs.taking.header_taking.Goals as goal

pub returns : goal.returns
returns c =
    header_takes (view_of c.args.parts.now) c.args.from c.args.to c.args.hash c.get.result c.get-2.result c.set_count.result.0 c.set_hash.result.0 c.set_marked.result.0 c.set_grey.result.0 c.set_remembered.result.0
    c.count.result c.remembers.result c.bit.result c.get.ensures c.get-2.ensures c.count.ensures.value c.count.ensures.bound c.requires.fits c.remembers.ensures c.bit.ensures
    (record { word = c.set_count.ensures.word; fields = c.set_count.ensures.fields })
    (record { word = c.set_hash.ensures.word; fields = c.set_hash.ensures.fields })
    (record { word = c.set_marked.ensures.word; fields = c.set_marked.ensures.fields })
    (record { word = c.set_grey.ensures.word; fields = c.set_grey.ensures.fields })
    (record { word = c.set_remembered.ensures.word; fields = c.set_remembered.ensures.fields })
