use Rattle.std.proofs.Common.{◌≡◌, ◌≤◌}
use Rattle.spur_graph.specs.Rounds.{names_dead}
use Rattle.spur_heap.specs.MarkBits.{marks}
use Rattle.spur_heap.specs.Views.{node_in}
use Rattle.weak_ephemeron.proofs.Nilling.{NilsBelow}
use Rattle.weak_ephemeron.proofs.Turning.{counted}
use Rattle.weak_ephemeron.proofs.nil.nil_slots.Given as goal

abbrev pub invariant-slots : goal.invariant-slots
invariant-slots l = record {
  from : l.strong ≤ l.i;
  nils : NilsBelow l.start l.strong l.i l.fn.heap l.heap;
  count : l.nilled ≡ counted (names_dead (marks l.fn.heap)) l.strong l.i (node_in l.fn.heap l.start).pointers;
  idle : l.nilled ≡ 0 → l.heap ≡ l.fn.heap;
}
