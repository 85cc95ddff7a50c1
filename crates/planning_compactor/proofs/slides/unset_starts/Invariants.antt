use Rattle.std.proofs.Common.{◌≡◌, ◌≢◌, ◌<◌, ℕ, false}
use Rattle.heap_walk.specs.Starts.{has_start, covered}
use Rattle.planning_compactor.specs.Entries.{start_of}
use Rattle.planning_compactor.proofs.slides.unset_starts.Given as goal

abbrev pub invariant-objects : goal.invariant-objects
invariant-objects l = record {
  removed : (k : ℕ) → k < l.i → has_start l.starts (start_of l.table k) ≡ false;
  others : (s : ℕ) → ((k : ℕ) → k < l.i → start_of l.table k ≢ s) → has_start l.starts s ≡ has_start l.fn.starts s;
  covers : covered l.starts ≡ covered l.fn.starts;
}
