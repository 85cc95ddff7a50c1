-- Two objects that are made side by side, to be filled.
use Rattle.std.specs.Prelude.{ℕ, ◌≡◌, ◌≢◌, ◌+◌, length, slice_index, Some, None}
use Rattle.std.specs.FinMap.{get}
use Rattle.spur_graph.specs.Node.{Node}
use Rattle.spur_graph.specs.Graph.{Graph, with_node}
use Rattle.spur_graph.specs.Room.{placed, fresh_spot, fresh_words}
use Rattle.spur_graph.specs.Serve.{Anywhere, Served, serve}
use Rattle.spur_graph.specs.Instances.{fresh_node}
use Rattle.spur_graph.specs.Heaps.{View, heap_graph, heap_room, heap_value}
use Rattle.spur_heap.specs.Words.{body_in}
use Rattle.spur_heap.specs.Views.{IsGood, IsOrdinary, IsOutsideFree, node_in}
use Rattle.spur_heap.specs.Outside.{IsOutside, IsOutsideEden}
use Rattle.spur_heap.specs.Fresh.{PutsObject}
use Rattle.spur_heap.specs.declared.heap.HeapParts.{HeapParts}
use Rattle.spur_heap.specs.declared.allocation.TheConstants.{BLANK_CLASS, BLANK_FORMAT}

-- the node of an object that is made to be filled: so many 64-bit units, each 0
abbrev pub blank_node : Graph → ℕ → Node
blank_node g slots = fresh_node g.nil BLANK_CLASS BLANK_FORMAT slots

-- two objects of so many slots were made side by side, in words that were served as one piece. They are two nodes more, under their starts; each word that was good
-- is good, and has its value; and words outside the piece stay
pub record MakesPair (old new : View) (first second s t : ℕ) : Type 0 where
  pub served : Served
  pub serves : serve Anywhere (heap_room old) (fresh_words first + fresh_words second) ≡ Some served
  pub apart : s ≢ t
  pub fresh_first : get (heap_graph old).nodes s ≡ None
  pub fresh_second : get (heap_graph old).nodes t ≡ None
  pub graph : heap_graph new ≡ with_node (with_node (heap_graph old) s (blank_node (heap_graph old) first)) t (blank_node (heap_graph old) second)
  pub room : heap_room new ≡ placed (placed served.room s (fresh_spot served.space first)) t (fresh_spot served.space second)
  pub there_first : IsOrdinary new s
  pub there_second : IsOrdinary new t
  pub node_first : node_in new s ≡ blank_node (heap_graph old) first
  pub node_second : node_in new t ≡ blank_node (heap_graph old) second
  pub slots_first : length (body_in new s).words ≡ first
  pub slots_second : length (body_in new t).words ≡ second
  pub values : (w : ℕ) → IsGood old w → heap_value new w ≡ heap_value old w
  pub goods : (w : ℕ) → IsGood old w → IsGood new w
  pub ordinary : (u : ℕ) → IsOrdinary old u → IsOrdinary new u
  pub bodies : (u : ℕ) → IsOrdinary old u → body_in new u ≡ body_in old u
  pub rest : new ≡ record old { words = new.words; spaces = new.spaces }
  pub others : (j : ℕ) → IsOutsideFree old j → IsOutsideEden old new j → slice_index new.words j ≡ slice_index old.words j
  pub inside : (j : ℕ) → IsOutsideFree old j → IsOutsideEden old new j → IsOutside new s j × IsOutside new t j

-- two objects of so many slots were written at the run from `at` on, the second behind the first
pub record PutsPair (old new : HeapParts) (at first second s t : ℕ) : Type 0 where
  pub middle : HeapParts
  pub one : PutsObject old middle at BLANK_CLASS BLANK_FORMAT first 0 s
  pub two : PutsObject middle new (at + fresh_words first) BLANK_CLASS BLANK_FORMAT second 0 t
