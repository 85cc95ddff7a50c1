use Rattle.std.proofs.Common.{ℕ, ◌≡◌, ◌+◌, ◌<◌, ◌≤◌, true, false, length}
use Rattle.std.specs.Prelude.{slice_index}
use Rattle.marker.specs.Waiting.{waits}
use Rattle.marker.specs.Visits.{Works, unmarked}
use Rattle.marker.proofs.look.look.Given as goal

abbrev pub invariant-starts : goal.invariant-starts
invariant-starts l = record {
  works : Works l.except l.fn.heap l.heap;
  within : l.i ≤ length l.heap.stack;
  less : l.found ≡ true → unmarked l.heap + length l.heap.stack < unmarked l.fn.heap + length l.fn.heap.stack;
  same : l.found ≡ false → l.heap ≡ l.fn.heap;
  wait : l.found ≡ false → (k : ℕ) → l.i ≤ k → k < length l.fn.heap.stack → waits l.fn.heap (slice_index l.fn.heap.stack k) ≡ true;
}

abbrev pub decreases-starts : goal.decreases-starts
decreases-starts l = l.i
