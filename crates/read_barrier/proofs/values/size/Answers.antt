use Rattle.std.proofs.Common.{◌∙◌, sym, ap, length}
use Rattle.spur_graph.specs.Node.{Node}
use Rattle.spur_graph.specs.Heaps.{heap_value}
use Rattle.spur_heap.proofs.NodesAt.{node_named}
use Rattle.read_barrier.proofs.values.size.Goals as goal

pub returns-clause-size : goal.returns-clause-size
returns-clause-size c =
    let start = c.in_ok-start in
    let node = sym (node_named c.args.heap.now start.start (heap_value c.args.heap.now c.args.object) start.ensures.there start.ensures.value) in
    (c.pointer_count.ensures ∙ ap (λ (n : Node). length n.pointers) node, c.unit_count.ensures ∙ ap (λ (n : Node). length n.units) node)
