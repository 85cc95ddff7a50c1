use Rattle.std.proofs.Common.{◌≡◌, ◌<◌, ◌≤◌, ◌-◌, ℕ, false, length}
use Rattle.heap_walk.specs.Starts.{has_start, covered}
use Rattle.spur_graph.specs.Cells.{is_there}
use Rattle.spur_graph.specs.FileStores.{file_store}
use Rattle.image_checks.proofs.pages.mark_objects.Given as goal

abbrev pub invariant-starts : goal.invariant-starts
invariant-starts l = record {
  covers : covered l.objects ≡ covered l.initial.objects;
  marked : (s : ℕ) → s < l.at → has_start l.objects s ≡ is_there ((file_store l.map l.words).cell s);
  empty : (s : ℕ) → l.at ≤ s → has_start l.objects s ≡ false;
}

abbrev pub decreases-starts : goal.decreases-starts
decreases-starts l = length l.words - l.at
