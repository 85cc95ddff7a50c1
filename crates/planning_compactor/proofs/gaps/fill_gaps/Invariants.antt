use Rattle.std.proofs.Common.{◌-◌}
use Rattle.heap_walk.specs.Starts.{has_start}
use Rattle.planning_compactor.proofs.Filling.{Filling}
use Rattle.planning_compactor.proofs.gaps.fill_gaps.Given as goal

abbrev pub invariant-objects : goal.invariant-objects
invariant-objects l = Filling (has_start l.starts) l.fn.words l.words l.low l.end l.at l.from

abbrev pub decreases-objects : goal.decreases-objects
decreases-objects l = l.end - l.from
