use Rattle.std.proofs.Common.{◌≡◌, ◌<◌, ℕ, false}
use Rattle.heap_walk.specs.Starts.{has_start, covered}
use Rattle.spur_graph.specs.Ordinary.{is_bad_page}
use Rattle.spur_graph.specs.FileStores.{file_store}
use Rattle.image_checks.specs.Checked.{AreLeft}
use Rattle.image_checks.proofs.pages.take_pages.Given as goal

abbrev pub invariant-places : goal.invariant-places
invariant-places l = record {
  covers : covered l.ordinary ≡ covered l.initial.ordinary;
  good : (i : ℕ) → i < l.place → is_bad_page (file_store l.map l.words) i ≡ false;
  left : AreLeft (file_store l.map l.words) l.place (has_start l.ordinary);
}
