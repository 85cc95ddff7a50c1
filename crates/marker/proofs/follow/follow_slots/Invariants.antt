use Rattle.std.proofs.Common.{◌<◌, ℕ}
use Rattle.spur_heap.specs.Following.{Follows, IsFollowedSlot}
use Rattle.marker.proofs.follow.follow_slots.Given as goal

abbrev pub invariant-slots : goal.invariant-slots
invariant-slots l = record {
  follows : Follows l.fn.heap l.heap;
  slots : (k : ℕ) → k < l.i → IsFollowedSlot l.heap l.start k;
}
