use Rattle.spur_graph.specs.Heaps.{store_of}
use Rattle.spur_heap.specs.MarkBits.{MarksThose, is_internal_below}
use Rattle.spur_heap.proofs.heap.Heap.mark_internal.Given as goal

abbrev pub invariant-places : goal.invariant-places
invariant-places l = record { marks : MarksThose (is_internal_below (store_of l.fn.self) l.place) l.fn.self l.self }
