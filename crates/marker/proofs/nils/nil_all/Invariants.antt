use Rattle.std.proofs.Common.{◌≡◌, ◌-◌, ◌*◌, ◌^◌, ◌≤◌, length}
use Rattle.spur_graph.specs.Heaps.{heap_graph}
use Rattle.spur_heap.specs.MarkBits.{marks}
use Rattle.marker.specs.Firing.{NilsBelow, nils_below}
use Rattle.marker.proofs.nils.nil_all.Given as goal

abbrev pub invariant-starts : goal.invariant-starts
invariant-starts l = record {
  nils : NilsBelow l.at l.fn.heap l.heap;
  count : l.nilled ≡ nils_below (marks l.fn.heap) (heap_graph l.fn.heap) l.at;
  low : l.nilled ≤ l.at * 2 ^ 27;
  idle : l.nilled ≡ 0 → l.heap ≡ l.fn.heap;
}

abbrev pub decreases-starts : goal.decreases-starts
decreases-starts l = length l.fn.heap.words - l.at
