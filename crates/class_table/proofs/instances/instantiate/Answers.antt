use Rattle.std.proofs.Common.{◌∙◌, sym, ap}
use Rattle.spur_graph.specs.Node.{Node}
use Rattle.spur_graph.specs.Heaps.{heap_value}
use Rattle.spur_heap.specs.Allocating.{source_of}
use Rattle.spur_heap.proofs.NodesAt.{node_there}
use Rattle.class_table.proofs.Made.{made_as}
use Rattle.class_table.proofs.instances.instantiate.Goals as goal

pub returns-in-Ok-clause-made : goal.returns-in-Ok-clause-made
returns-in-Ok-clause-made c =
    let v = c.args.heap.now in
    let class = c.in_ok-class in
    let layout = c.in_ok-layout in
    made_as v c.allocate.new.self (source_of c.args.space) class.class c.args.n c.in-Ok.start c.word_of.result c.index_of-index.result c.format_for.result c.slots_for.result layout.layout (heap_value v c.args.class)
    class.ensures.value layout.ensures.layout (c.index_of-index.ensures.hash ∙ sym (ap (λ (n : Node). n.hash) (node_there v class.class class.ensures.there)))
    c.format_for.ensures c.slots_for.ensures c.in-Ok.ensures.made c.word_of.ensures.word c.word_of.ensures.good c.word_of.ensures.value
