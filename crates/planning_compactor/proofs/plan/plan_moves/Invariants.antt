use Rattle.std.proofs.Common.{◌≡◌, ◌-◌, ◌≤◌, length}
use Rattle.heap_walk.specs.Starts.{has_start}
use Rattle.planning_compactor.specs.Planning.{IsPlan, HasMoves, IsPlanned, left}
use Rattle.planning_compactor.proofs.plan.plan_moves.Given as goal

abbrev pub invariant-objects : goal.invariant-objects
invariant-objects l = record {
  same : (l.plan.low ≡ l.fn.plan.low) × (l.plan.end ≡ l.fn.plan.end) × (l.fn.plan.next ≤ l.plan.next);
  same_table : length l.table ≡ length l.fn.table;
  few : l.count ≤ length l.fn.table;
  plan : IsPlan (has_start l.starts) l.words l.fn.plan.low l.fn.plan.end l.plan.next l.plan.pin l.plan.finger l.table l.count;
  is : IsPlanned (left (has_start l.starts) l.words l.fn.plan.next l.fn.plan.pin l.fn.plan.finger l.fn.plan.end) l.table l.count l.plan.next (left (has_start l.starts) l.words l.plan.next l.plan.pin l.plan.finger l.fn.plan.end);
  moves : HasMoves (has_start l.starts) l.words l.fn.plan.low l.fn.plan.end l.table l.count l.plan.next;
}

abbrev pub decreases-objects : goal.decreases-objects
decreases-objects l = l.plan.end - l.plan.next
