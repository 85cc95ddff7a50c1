use Rattle.spur_heap.proofs.FreshRuns.{object_written, object_others}
use Rattle.spur_heap.proofs.making.write_object.Goals as goal

pub returns-clause-run : goal.returns-clause-run
returns-clause-run c =
    object_written c.args.region.now c.write_head-start.new.region c.put.new.self c.fill.new.region c.args.at c.args.class c.args.format c.args.slots c.args.word c.write_head-start.result
    c.requires.inside c.write_head-start.ensures.start c.write_head-start.ensures.same_length c.put.ensures c.fill.ensures c.write_head-start.ensures.overflow c.write_head-start.ensures.header

pub returns-clause-others : goal.returns-clause-others
returns-clause-others c =
    object_others c.args.region.now c.write_head-start.new.region c.put.new.self c.fill.new.region c.args.at c.args.class c.args.format c.args.slots c.args.word c.write_head-start.result
    c.requires.inside c.write_head-start.ensures.start c.write_head-start.ensures.same_length c.put.ensures c.fill.ensures c.write_head-start.ensures.others
