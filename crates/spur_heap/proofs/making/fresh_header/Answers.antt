use Rattle.spur_heap.proofs.FreshHeads.{fresh_header_is}
use Rattle.spur_heap.proofs.making.fresh_header.Goals as goal

pub returns : goal.returns
returns c =
    fresh_header_is c.set_count.result.0 c.set_format.result.0 c.set_class.result.0 c.args.count c.args.class c.args.format c.requires.count c.requires.class c.requires.format
    c.set_count.ensures.word c.set_format.ensures.word c.set_class.ensures.word c.set_count.ensures.fields c.set_format.ensures.fields c.set_class.ensures.fields
