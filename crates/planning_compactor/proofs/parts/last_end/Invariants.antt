use Rattle.std.proofs.Common.{◌≡◌, ◌-◌, ◌<◌, ◌≤◌, ◌⊎◌, ℕ}
use Rattle.heap_walk.specs.Starts.{has_start}
use Rattle.heap_walk.specs.Shapes.{end_at}
use Rattle.planning_compactor.specs.Planning.{IsIn}
use Rattle.planning_compactor.proofs.parts.last_end.Given as goal

-- the objects that start before `from` end at `last`
abbrev pub invariant-objects : goal.invariant-objects
invariant-objects l = record {
  edge : (l.last ≡ l.part.low) ⊎ ((s : ℕ) × IsIn (has_start l.starts) l.part.low l.part.end s × (end_at l.words s ≡ l.last));
  none : (s : ℕ) → IsIn (has_start l.starts) l.part.low l.part.end s → s < l.from → end_at l.words s ≤ l.last;
  bound : l.part.low ≤ l.from;
}

abbrev pub decreases-objects : goal.decreases-objects
decreases-objects l = l.part.end - l.from
