use Rattle.std.proofs.Common.{◌≡◌, ◌<◌, ℕ, true}
use Rattle.std.specs.Prelude.{slice_index}
use Rattle.spur_heap.specs.MarkBits.{marks}
use Rattle.marker.specs.Roots.{NamedByWord}
use Rattle.marker.proofs.roots.unmarked_handle.Given as goal

abbrev pub invariant-handles : goal.invariant-handles
invariant-handles l = record { none : (j t : ℕ) → j < l.i → NamedByWord l.heap (slice_index l.words j) t → marks l.heap t ≡ true }
