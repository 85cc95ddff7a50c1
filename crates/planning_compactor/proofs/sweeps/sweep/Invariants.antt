use Rattle.std.proofs.Common.{◌≡◌, ◌+◌, ◌-◌, ◌<◌, ◌≤◌, ℕ, length, true, false}
use Rattle.heap_walk.specs.Starts.{has_start, covered}
use Rattle.spur_graph.specs.Heaps.{is_marked}
use Rattle.planning_compactor.specs.Planning.{marks}
use Rattle.planning_compactor.specs.Ranges.{is_lost}
use Rattle.planning_compactor.proofs.sweeps.sweep.Given as goal

abbrev pub invariant-starts : goal.invariant-starts
invariant-starts l = record {
  covers : covered l.starts ≡ covered l.fn.starts;
  before : (s : ℕ) → s < l.at → has_start l.fn.starts s ≡ true → has_start l.starts s ≡ is_marked l.words s;
  gone : (s : ℕ) → has_start l.fn.starts s ≡ false → has_start l.starts s ≡ false;
  after : (s : ℕ) → l.at ≤ s → has_start l.starts s ≡ has_start l.fn.starts s;
  few : l.lost ≤ l.at;
  inside : l.at ≤ length l.words;
  lost : l.lost + length (marks (is_lost (has_start l.fn.starts) l.words) l.words l.at (length l.words)) ≡ length (marks (is_lost (has_start l.fn.starts) l.words) l.words 0 (length l.words));
}

abbrev pub decreases-starts : goal.decreases-starts
decreases-starts l = covered l.starts - l.at
