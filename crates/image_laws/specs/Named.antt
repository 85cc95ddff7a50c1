-- How the words of a file name starts, and the names of the starts, which are addresses.
use Rattle.std.specs.Prelude.{ℕ, List, length}
use Rattle.spur_graph.specs.Segments.{Segment, address_in}
use Rattle.object_header.specs.Chunks.{Cuts, chunks}
use Rattle.heap_segments.specs.Rising.{IsRising}
use Rattle.heap_cells.specs.Settled.{IsNamed}
use Rattle.heap_laws.specs.Settling.{AreNames}
use Rattle.image_checks.specs.Checks.{AreOf}
use Rattle.spur_graph.specs.FileStores.{file_store}

abbrev pub FileIsNamed : Type 0
FileIsNamed = (segs : List Segment) (words : List ℕ) → IsRising 0 segs → AreOf segs words → Cuts words 0 (length words) (chunks words) → IsNamed (file_store segs words)

-- no two starts have one address
abbrev pub FileHasNames : Type 0
FileHasNames = (segs : List Segment) (words : List ℕ) → IsRising 0 segs → AreOf segs words → Cuts words 0 (length words) (chunks words) → AreNames (file_store segs words) (λ s. address_in segs s)
