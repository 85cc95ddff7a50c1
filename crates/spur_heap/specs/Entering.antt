-- The class table of a heap: its pages, and an entry that is made.
use Rattle.std.specs.Prelude.{ℕ, ◌≡◌, ◌≢◌, ◌<◌, ◌/◌, true, false, Some, None}
use Rattle.std.specs.FinMap.{get, remove}
use Rattle.std.specs.FinSet as sets
use Rattle.std.specs.FinSet.{contains}
use Rattle.spur_graph.specs.declared.answer.Value.TheVariants.{Ref}
use Rattle.spur_graph.specs.Graph.{Graph, IsClosed}
use Rattle.spur_graph.specs.Instances.{fresh_node}
use Rattle.spur_graph.specs.Room.{Room, Old, fresh_spot, with_page, page_words}
use Rattle.spur_graph.specs.Serve.{OldAlone, Served, serve}
use Rattle.spur_graph.specs.Ordinary.{page_entries, page_places, class_limit, is_no_index}
use Rattle.spur_graph.specs.Heaps.{View, heap_graph, heap_room, heap_value}
use Rattle.spur_heap.specs.Views.{IsGood, IsOrdinary, node_in}

-- the class table has a page for the index, or has none
abbrev pub HasPage : View → ℕ → Type 0
HasPage v index = contains (heap_room v).pages (index / page_entries) ≡ true

abbrev pub HasNoPage : View → ℕ → Type 0
HasNoPage v index = contains (heap_room v).pages (index / page_entries) ≡ false

-- a page of the class table was made for an index: the graph is as before
pub record MakesPage (old new : View) (index : ℕ) : Type 0 where
  pub served : Served
  pub serves : serve OldAlone (heap_room old) page_words ≡ Some served
  pub graph : heap_graph new ≡ heap_graph old
  pub room : heap_room new ≡ with_page served.room (index / page_entries)
  pub values : (w : ℕ) → IsGood old w → heap_value new w ≡ heap_value old w
  pub goods : (w : ℕ) → IsGood old w → IsGood new w
  pub ordinary : (t : ℕ) → IsOrdinary old t → IsOrdinary new t
  pub nodes : (t : ℕ) → IsOrdinary old t → node_in new t ≡ node_in old t
  pub rest : new ≡ record old { words = new.words }

-- an object can be entered at an index: this is its hash, and its page has no entry there
pub record CanEnter (v : View) (index start : ℕ) : Type 0 where
  pub there : IsOrdinary v start
  pub other : start ≢ (heap_graph v).nil
  pub below : index < class_limit
  pub known : is_no_index index ≡ false
  pub hash : (node_in v start).hash ≡ index
  pub page : HasPage v index
  pub unentered : get (heap_graph v).classes index ≡ None

-- ---- an object that becomes a page

-- the class index and the format of a page
abbrev pub page_class : ℕ
page_class = 16

abbrev pub page_format : ℕ
page_format = 2

-- the graph without the node of a name, and the room without its spot
abbrev pub without_node : Graph → ℕ → Graph
without_node g a = record g { nodes = remove g.nodes a }

abbrev pub without_spot : Room → ℕ → Room
without_spot room a = record room { spots = remove room.spots a; old_names = sets.remove room.old_names a }

-- an object of old space can become the page of this place: its slots name nil, it has no flag, and nothing names it, so that the graph is closed without it
pub record CanTurn (v : View) (place start : ℕ) : Type 0 where
  pub below : place < page_places
  pub absent : contains (heap_room v).pages place ≡ false
  pub there : IsOrdinary v start
  pub node : node_in v start ≡ fresh_node (heap_graph v).nil page_class page_format page_entries
  pub spot : get (heap_room v).spots start ≡ Some (fresh_spot Old page_entries)
  pub lone : IsClosed (without_node (heap_graph v) start)

-- it became one, and is no object of the graph any more
pub record TurnsIntoPage (old new : View) (place start : ℕ) : Type 0 where
  pub graph : heap_graph new ≡ without_node (heap_graph old) start
  pub room : heap_room new ≡ with_page (without_spot (heap_room old) start) place
  pub values : (w : ℕ) → heap_value old w ≢ Ref start → heap_value new w ≡ heap_value old w
  pub goods : (w : ℕ) → heap_value old w ≢ Ref start → IsGood old w → IsGood new w
  pub ordinary : (t : ℕ) → t ≢ start → IsOrdinary old t → IsOrdinary new t
  pub rest : new ≡ record old { words = new.words }
