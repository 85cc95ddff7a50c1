-- The words of an image file as a store.
use Rattle.std.specs.Prelude.{ℕ, List}
use Rattle.spur_graph.specs.Segments.{Segment, word_in}
use Rattle.object_header.specs.Chunks.{chunks}
use Rattle.spur_graph.specs.Cells.{Store, store_in}

-- the words of the objects of some segments as a store, in which a reference is the address of a word
abbrev pub file_store : List Segment → List ℕ → Store
file_store segs words = store_in (word_in segs 0) words (chunks words)
