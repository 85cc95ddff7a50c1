-- Two objects whose contents are copied into one piece of words.
use Rattle.std.specs.Prelude.{ℕ, ◌≡◌, ◌≢◌, slice_index, Some, None}
use Rattle.std.specs.FinMap.{get}
use Rattle.spur_graph.specs.Graph.{Graph, node, with_node}
use Rattle.spur_graph.specs.Room.{Room, placed, fresh_spot, slots_in, spot_at}
use Rattle.spur_graph.specs.Serve.{Anywhere, Served, serve}
use Rattle.spur_graph.specs.Become.{exchange_words}
use Rattle.spur_graph.specs.Heaps.{View, heap_graph, heap_room}
use Rattle.spur_heap.specs.Views.{IsOrdinary, IsOutsideFree}
use Rattle.spur_heap.specs.Outside.{IsOutsideEden}

-- the graph with a copy of each, which has the hash of the other
abbrev pub with_copies : Graph → ℕ → ℕ → ℕ → ℕ → Graph
with_copies g a b c d = with_node (with_node g c (record (node g b) { hash = (node g a).hash })) d (record (node g a) { hash = (node g b).hash })

-- the room with a copy of each, where so many words were served
abbrev pub room_with_copies : Room → Served → ℕ → ℕ → ℕ → ℕ → Room
room_with_copies room served a b c d =
    placed (placed served.room c (fresh_spot served.space (slots_in (spot_at room b)))) d (fresh_spot served.space (slots_in (spot_at room a)))

-- both were copied, in words that were served as one piece. The copies are two nodes more, and words outside the piece stay
pub record CopiesBoth (old new : View) (a b c d : ℕ) : Type 0 where
  pub served : Served
  pub serves : serve Anywhere (heap_room old) (exchange_words (heap_room old) a b) ≡ Some served
  pub apart : c ≢ d
  pub fresh_first : get (heap_graph old).nodes c ≡ None
  pub fresh_second : get (heap_graph old).nodes d ≡ None
  pub graph : heap_graph new ≡ with_copies (heap_graph old) a b c d
  pub room : heap_room new ≡ room_with_copies (heap_room old) served a b c d
  pub there_first : IsOrdinary new c
  pub there_second : IsOrdinary new d
  pub ordinary : (s : ℕ) → IsOrdinary old s → IsOrdinary new s
  pub rest : new ≡ record old { words = new.words; spaces = new.spaces }
  pub others : (j : ℕ) → IsOutsideFree old j → IsOutsideEden old new j → slice_index new.words j ≡ slice_index old.words j
