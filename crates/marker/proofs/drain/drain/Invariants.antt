use Rattle.std.proofs.Common.{◌≡◌, ◌⊎◌, ◌+◌, ◌-◌, ◌<◌, ◌≤◌, length}
use Rattle.marker.specs.Waiting.{EndsReady}
use Rattle.marker.specs.Visits.{Works, unmarked}
use Rattle.marker.proofs.drain.drain.Given as goal

abbrev pub invariant-starts : goal.invariant-starts
invariant-starts l = record {
  works : Works l.except l.fn.heap l.heap;
  within : l.aside ≤ length l.heap.stack;
  kept : l.waiting ≤ l.aside;
  less : EndsReady l.waiting l.fn.heap → (unmarked l.heap + length l.heap.stack < unmarked l.fn.heap + length l.fn.heap.stack) ⊎ ((l.heap ≡ l.fn.heap) × (l.aside ≡ l.waiting));
}

abbrev pub decreases-starts : goal.decreases-starts
decreases-starts l = unmarked l.heap + length l.heap.stack - l.aside
