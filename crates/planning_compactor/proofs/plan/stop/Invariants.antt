use Rattle.std.proofs.Common.{◌≡◌, ◌-◌}
use Rattle.heap_walk.specs.Starts.{has_start}
use Rattle.planning_compactor.specs.Planning.{pins, Passing}
use Rattle.planning_compactor.specs.Spans.{stop}
use Rattle.planning_compactor.proofs.plan.stop.Given as goal

abbrev pub invariant-pins : goal.invariant-pins
invariant-pins l = record {
  same : l.plan ≡ record (l.fn.plan) { pin = l.plan.pin; finger = l.plan.finger };
  is : stop (pins (has_start l.starts) l.words l.plan.pin l.fn.plan.end) l.plan.finger l.place l.size ≡ stop (pins (has_start l.starts) l.words l.fn.plan.pin l.fn.plan.end) l.fn.plan.finger l.place l.size;
  passing : Passing (has_start l.starts) l.words l.fn.plan.low l.fn.plan.end l.place l.fn.plan.pin l.fn.plan.finger l.plan.pin l.plan.finger;
}

abbrev pub decreases-pins : goal.decreases-pins
decreases-pins l = l.plan.end - l.plan.pin
