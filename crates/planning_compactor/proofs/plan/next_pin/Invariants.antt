use Rattle.std.proofs.Common.{◌≡◌, ◌-◌, ◌<◌, ◌≤◌, ℕ, false}
use Rattle.heap_walk.specs.Starts.{has_start, covered}
use Rattle.planning_compactor.specs.Pins.{is_pin}
use Rattle.planning_compactor.proofs.plan.next_pin.Given as goal

abbrev pub invariant-starts : goal.invariant-starts
invariant-starts l = record {
  on : l.from ≤ l.at;
  none : (k : ℕ) → l.from ≤ k → k < l.at → is_pin (has_start l.starts) l.words k ≡ false;
}

abbrev pub decreases-starts : goal.decreases-starts
decreases-starts l = covered l.starts - l.at
