-- The segments of a file whose header can be, and how many words they have.
use Rattle.std.specs.Prelude.{ℕ, ◌+◌, ◌*◌, ◌≤◌, List, length}
use Rattle.spur_graph.specs.declared.limits.Limits.{Limits}
use Rattle.spur_graph.specs.ImageFile.{heap_bytes}
use Rattle.spur_graph.specs.Segments.{segments, all_words}
use Rattle.spur_graph.specs.ImageCauses.{BadBase, TooLarge, NoHeap, most_words}
use Rattle.heap_segments.specs.Rising.{IsRising}
use Rattle.image_checks.specs.Checks.{AreOf}
use Rattle.image_laws.specs.Causes.{HasNone}

pub record IsCounted (bytes : List ℕ) (limits : Limits) : Type 0 where
  pub rising : IsRising 0 (segments bytes)
  pub of : AreOf (segments bytes) (all_words bytes)
  -- bridges are no words of the heap
  pub fit : 8 * length (all_words bytes) ≤ heap_bytes bytes
  pub few : length (all_words bytes) + limits.room ≤ most_words

abbrev pub RowsCount : Type 0
RowsCount = (bytes : List ℕ) (limits : Limits) → HasNone bytes limits BadBase → HasNone bytes limits TooLarge → HasNone bytes limits NoHeap → IsCounted bytes limits
