use Rattle.std.proofs.Common.{ap, sym, ◌∙◌}
use Rattle.spur_graph.specs.Heaps.{View, heap_room}
use Rattle.spur_heap.specs.Parts.{view_of}
use Rattle.spur_heap.proofs.Figures.{eden_room}
use Rattle.spur_heap.proofs.heap.Heap.eden_left.Goals as goal

pub returns : goal.returns
returns c = sym (eden_room (view_of c.self.inside.parts) c.self.invariant.whole) ∙ ap (λ (v : View). (heap_room v).eden_left) c.self.view_is
