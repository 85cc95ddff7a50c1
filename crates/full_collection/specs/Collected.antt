-- What a full collection does to a heap.
use Rattle.std.specs.Prelude.{ℕ, ◌≡◌, true}
use Rattle.spur_graph.specs.Graph.{Graph}
use Rattle.spur_graph.specs.Live.{Live, none}
use Rattle.spur_graph.specs.Rounds.{Collect, Decides, Rounds, swept}
use Rattle.spur_graph.specs.Room.{Room}
use Rattle.spur_graph.specs.Collections.{RoomCollected}
use Rattle.spur_graph.specs.Cells.{is_start, is_there}
use Rattle.spur_graph.specs.Heaps.{View, Stands, Whole, chunks_of, heap_graph, heap_room, marked_graph, store_of}
use Rattle.spur_heap.specs.MarkBits.{Unmarks, marks}
use Rattle.compaction_laws.specs.Compacting.{Compacts, is_marked_object}
use Rattle.marker.specs.Marked.{AreInternalMarked}

-- the heap stands for the graph of a collection with no further roots, in the room behind one, whichever places its objects have. The hash state, the bytes of
-- the image's header, the limits and the phase are as before
pub record CollectsHeap (old : View) (nilled fired : ℕ) (new : View) : Type 0 where
  pub graph : Graph
  pub collect : Collect (heap_graph old) none nilled fired graph
  pub room : Room
  pub collected : RoomCollected (heap_room old) graph room
  pub stands : Stands new graph room
  pub rest : new ≡ record old { words = new.words; spaces = new.spaces; mourners = new.mourners; handles = new.handles; special = new.special; stack = new.stack }

-- no header has its mark bit any more, and nothing else changes
pub record ClearsMarks (old new : View) : Type 0 where
  pub words : Unmarks old.words new.words (chunks_of old)
  pub store : store_of new ≡ store_of old
  pub rest : new ≡ record old { words = new.words; phase = Whole }

-- exactly the objects that live when the rounds have ended, and the internal ones, are left, each at its planned place. They are marked in a heap between, in
-- which names, the starts of objects, are those of the old heap, and so are sizes and spaces. That heap is compacted, and then no object is marked any more
pub record GoesAsPlanned (old new : View) : Type 0 where
  pub mid : Graph
  pub fired : ℕ
  pub rounds : Rounds none (heap_graph old) fired mid
  pub marked : View
  pub live : Decides (marks marked) (Live mid none)
  pub internal : AreInternalMarked marked
  pub graph : marked_graph marked ≡ swept (marks marked) mid
  pub room : heap_room marked ≡ heap_room old
  pub spaces : marked.spaces ≡ old.spaces
  pub goes : ℕ → ℕ
  pub compacted : View
  pub compacts : Compacts goes marked compacted
  pub clears : ClearsMarks compacted new
  pub there : (s : ℕ) → is_marked_object marked s ≡ true → is_there ((store_of new).cell (goes s)) ≡ true
  pub only : (s : ℕ) → is_start ((store_of new).cell s) ≡ true → (t : ℕ) × (is_marked_object marked t ≡ true) × (goes t ≡ s)
