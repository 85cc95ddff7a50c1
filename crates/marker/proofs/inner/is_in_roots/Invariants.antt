use Rattle.std.proofs.Common.{◌≡◌, false}
use Rattle.spur_graph.specs.Cells.{any_below}
use Rattle.spur_graph.specs.Ordinary.{tells}
use Rattle.spur_graph.specs.Heaps.{store_of}
use Rattle.spur_heap.specs.Parts.{view_of}
use Rattle.marker.proofs.inner.is_in_roots.Given as goal

abbrev pub invariant-places : goal.invariant-places
invariant-places l = record { none : any_below (λ i. tells (store_of (view_of l.parts)) i l.start) l.i ≡ false }
