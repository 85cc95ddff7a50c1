use Rattle.std.proofs.Common.{◌<◌, ◌^◌, subst}
use Rattle.std.specs.List.{All}
use Rattle.spur_graph.specs.Graph.{IsClosed}
use Rattle.spur_graph.specs.Heaps.{heap_graph}
use Rattle.heap_cells.proofs.WholeClosed.{whole_is_closed}
use Rattle.spur_heap.specs.Parts.{view_of}
use Rattle.spur_heap.proofs.heap.Heap.whole.Goals as goal

pub returns-clause-closed : goal.returns-clause-closed
returns-clause-closed c =
    subst (λ v. IsClosed (heap_graph v)) c.self.view_is
    (whole_is_closed (view_of c.self.inside.parts) c.self.invariant.whole (subst (All (λ w. w < 2 ^ 64)) c.as_slice.ensures c.words_fit.ensures) c.held_fit.ensures)
