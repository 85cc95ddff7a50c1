-- The roots of a heap, kind by kind, as a collection visits them.
use Rattle.std.specs.Prelude.{ℕ, ◌≡◌, ◌<◌, ◌*◌, slice_index, length, Some}
use Rattle.std.specs.FinMap.{get}
use Rattle.spur_graph.specs.declared.answer.Value.TheVariants.{Ref}
use Rattle.spur_graph.specs.Graph.{Handle}
use Rattle.spur_graph.specs.Cells.{first}
use Rattle.spur_graph.specs.Ordinary.{class_limit}
use Rattle.spur_graph.specs.Heaps.{View, heap_value, waiting_in}
use Rattle.heap_cells.specs.Settled.{word_of}
use Rattle.spur_heap.specs.Entering.{HasPage}
use Rattle.spur_heap.specs.Views.{store, class_word}

-- which word of the roots names it: that of nil, false or true, of the special objects array, of a handle, of a mourner's start, or of the class of an
-- index for which there is a page
pub data RootNames (v : View) (a : ℕ) : Type 0 where
  First : (k : ℕ) → k < 3 → heap_value v (word_of (first (store v) k)) ≡ Ref a → RootNames v a
  Special : heap_value v v.special ≡ Ref a → RootNames v a
  Held : (handle : Handle) (word : ℕ) → get v.handles handle ≡ Some word → heap_value v word ≡ Ref a → RootNames v a
  Mourner : (k : ℕ) → k < length (waiting_in v.mourners) → heap_value v (8 * slice_index (waiting_in v.mourners) k) ≡ Ref a → RootNames v a
  Entry : (index word : ℕ) → index < class_limit → HasPage v index → class_word v index word → heap_value v word ≡ Ref a → RootNames v a
