use Rattle.std.proofs.Common.{◌∙◌, sym}
use Rattle.spur_graph.specs.Heaps.{heap_graph}
use Rattle.spur_graph.proofs.Classed.{classed_is_entered}
use Rattle.spur_heap.proofs.heap.Heap.is_classed.Goals as goal

pub returns : goal.returns
returns c = c.is_entered.ensures ∙ sym (classed_is_entered (heap_graph c.args.self.now) c.whole.ensures.closed c.args.start)
