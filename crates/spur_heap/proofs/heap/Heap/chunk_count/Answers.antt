use Rattle.std.proofs.Common.{sym, ap, ◌∙◌}
use Rattle.std.specs.FinMap.{len}
use Rattle.spur_graph.specs.Heaps.{View, heap_graph}
use Rattle.spur_heap.specs.Parts.{view_of}
use Rattle.spur_heap.proofs.Figures.{node_count}
use Rattle.spur_heap.proofs.heap.Heap.chunk_count.Goals as goal

pub returns : goal.returns
returns c =
    c.self.invariant.objects.count ∙ sym (node_count (view_of c.self.inside.parts) c.self.invariant.whole) ∙ ap (λ (v : View). len (heap_graph v).nodes) c.self.view_is
