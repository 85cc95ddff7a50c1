use Rattle.std.proofs.Common.{◌≡◌, ◌≢◌, ◌<◌, ℕ, true}
use Rattle.heap_walk.specs.Starts.{has_start, covered}
use Rattle.planning_compactor.specs.Slid.{target_of}
use Rattle.planning_compactor.proofs.slides.set_targets.Given as goal

abbrev pub invariant-objects : goal.invariant-objects
invariant-objects l = record {
  added : (k : ℕ) → k < l.i → has_start l.starts (target_of l.table k) ≡ true;
  others : (s : ℕ) → ((k : ℕ) → k < l.i → target_of l.table k ≢ s) → has_start l.starts s ≡ has_start l.fn.starts s;
  covers : covered l.starts ≡ covered l.fn.starts;
}
