-- The page of a class index, made where there is none.
use Rattle.std.specs.Prelude.{ℕ, ◌≡◌, Some}
use Rattle.spur_graph.specs.Does.{room_entered}
use Rattle.spur_graph.specs.Heaps.{View, heap_graph, heap_room}
use Rattle.spur_heap.specs.Views.{IsOrdinary, node_in}
use Rattle.spur_heap.specs.Entering.{HasPage}

-- the index has a page, made in old space if there was none; the graph is as before
pub record HasPlace (old new : View) (index : ℕ) : Type 0 where
  pub page : HasPage new index
  pub room : room_entered (heap_room old) index ≡ Some (heap_room new)
  pub graph : heap_graph new ≡ heap_graph old
  pub ordinary : (t : ℕ) → IsOrdinary old t → IsOrdinary new t
  pub nodes : (t : ℕ) → IsOrdinary old t → node_in new t ≡ node_in old t
  pub rest : new ≡ record old { words = new.words }
