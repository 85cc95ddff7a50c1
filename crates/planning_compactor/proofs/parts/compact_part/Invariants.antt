use Rattle.std.proofs.Common.{◌≡◌, ◌-◌, ◌≤◌, ℕ, List, length}
use Rattle.heap_walk.specs.Starts.{has_start, covered}
use Rattle.planning_compactor.specs.Spans.{Move}
use Rattle.planning_compactor.specs.Planning.{AreLaid, IsPlan, left}
use Rattle.planning_compactor.specs.Objects.{AreObjects}
use Rattle.planning_compactor.specs.Roots.{roots_of, AreRoots, RootsMovedBy}
use Rattle.planning_compactor.specs.Compacted.{IsCompacting}
use Rattle.planning_compactor.proofs.parts.compact_part.Given as goal

abbrev pub invariant-passes : goal.invariant-passes
invariant-passes l = record {
  same : (l.plan.low ≡ l.fn.part.low) × (l.plan.end ≡ l.fn.part.end) × (l.fn.part.low ≤ l.plan.next);
  covers : covered l.starts ≡ covered l.fn.starts;
  same_words : length l.words ≡ length l.fn.words;
  same_table : length l.table ≡ length l.fn.table;
  laid : AreLaid (has_start l.starts) l.words l.fn.part.low l.fn.part.end;
  objects : AreObjects (has_start l.starts) l.words;
  plan : IsPlan (has_start l.starts) l.words l.fn.part.low l.fn.part.end l.plan.next l.plan.pin l.plan.finger l.table 0;
  so_far : (done : List Move) × (p : ℕ → ℕ) × IsCompacting (left (has_start l.fn.starts) l.fn.words l.fn.part.low l.fn.part.low l.fn.part.low l.fn.part.end) done (left (has_start l.starts) l.words l.plan.next l.plan.pin l.plan.finger l.fn.part.end) p (has_start l.fn.starts) (has_start l.starts) l.fn.words l.words l.fn.part.low l.fn.part.end l.plan.next × RootsMovedBy p (roots_of l.fn.handles l.fn.special l.fn.mourners) (roots_of l.handles l.special l.mourners);
  roots : AreRoots (has_start l.starts) (roots_of l.handles l.special l.mourners);
}

abbrev pub decreases-passes : goal.decreases-passes
decreases-passes l = l.fn.part.end - l.plan.next
