-- The laws of compaction.
use Rattle.std.specs.Prelude.{ℕ, ◌≡◌, ◌≢◌, ◌+◌, ◌/◌, ◌%◌, ◌<◌, ◌≤◌, true, false, slice_index, Some}
use Rattle.std.specs.List.{Contains}
use Rattle.std.specs.FinMap.{get}
use Rattle.object_header.specs.Formats.{is_method}
use Rattle.object_header.specs.Head.{format_of}
use Rattle.object_header.specs.Chunks.{slots_at}
use Rattle.spur_graph.specs.Graph.{Handle}
use Rattle.spur_graph.specs.Names.{Iso}
use Rattle.spur_graph.specs.Room.{Room}
use Rattle.spur_graph.specs.Collections.{RoomCollected}
use Rattle.spur_graph.specs.Step.{SameRoom}
use Rattle.spur_graph.specs.Cells.{first, is_start, is_there}
use Rattle.spur_graph.specs.Ordinary.{is_ordinary}
use Rattle.spur_graph.specs.Heaps.{View, IsWhole, is_marked, waiting_in, store_of, heap_graph, heap_room, marked_graph}
use Rattle.heap_laws.specs.Compaction.{pointers_at, with_lists}
use Rattle.compaction_laws.specs.Compacting.{is_marked_object, is_mapped, is_pinned, IsTight, Compacts}

-- ---- before a compaction

-- what moving objects asks of the words, besides where chunks stand: the pointers of each object are among its slots, each reference of an object in
-- the start map and of a root names one in the start map, and nothing in new space is pinned
pub record CanMove (v : View) : Type 0 where
  pub there : (s : ℕ) → is_mapped v s ≡ true → is_there ((store_of v).cell s) ≡ true
  pub fits : (s : ℕ) → is_mapped v s ≡ true → pointers_at v.words s ≤ slots_at v.words s
  pub refs : (s i : ℕ) → is_mapped v s ≡ true → i < pointers_at v.words s → slice_index v.words (s + 1 + i) % 8 ≡ 0 → is_mapped v (slice_index v.words (s + 1 + i) / 8) ≡ true
  pub methods : (s : ℕ) → is_mapped v s ≡ true → is_method (format_of (slice_index v.words s)) ≡ true → (0 < slots_at v.words s) × (slice_index v.words (s + 1) % 8 ≢ 0)
  pub mobile : (s : ℕ) → is_mapped v s ≡ true → v.spaces.old_end ≤ s → is_pinned v.words s ≡ false
  pub special : v.special % 8 ≡ 0 → is_mapped v (v.special / 8) ≡ true
  pub held : (h : Handle) (word : ℕ) → get v.handles h ≡ Some word → word % 8 ≡ 0 → is_mapped v (word / 8) ≡ true
  pub waiting : (s : ℕ) → Contains (waiting_in v.mourners) s → is_mapped v s ≡ true

abbrev pub TightCanMove : Type 0
TightCanMove = (v : View) → IsWhole v → IsTight v → CanMove v

-- ---- behind it

-- a heap stands for the graph of what was marked in another: each marked object has the name of its place
pub record IsSweptHeap (p : ℕ → ℕ) (v v' : View) : Type 0 where
  pub place : ℕ → ℕ
  pub back : ℕ → ℕ
  pub graph : Iso (marked_graph v) (heap_graph v') place back
  pub named : (s : ℕ) → is_marked_object v s ≡ true → is_ordinary (store_of v) s ≡ true → place s ≡ p s

abbrev pub CompactedIsSwept : Type 0
CompactedIsSwept = (p : ℕ → ℕ) (v v' : View) → IsWhole v → IsTight v → Compacts p v v' → IsSweptHeap p v v'

-- the heap is whole
abbrev pub CompactedIsWhole : Type 0
CompactedIsWhole = (p : ℕ → ℕ) (v v' : View) → IsWhole v → IsTight v → Compacts p v v' → IsWhole v'

-- exactly the marked objects stand there, each at its place, and no forwarder; the first five chunks are the first five
pub record IsAllThatStands (p : ℕ → ℕ) (v v' : View) : Type 0 where
  pub firsts : (k : ℕ) → k < 5 → first (store_of v') k ≡ first (store_of v) k
  pub there : (s : ℕ) → is_marked_object v s ≡ true → is_marked_object v' (p s) ≡ true
  pub only : (s : ℕ) → is_start ((store_of v').cell s) ≡ true → (t : ℕ) × (is_marked_object v t ≡ true) × (p t ≡ s)

abbrev pub CompactedStands : Type 0
CompactedStands = (p : ℕ → ℕ) (v v' : View) → IsWhole v → IsTight v → Compacts p v v' → IsAllThatStands p v v'

-- the start map has the starts of all objects, but for that of the free lists object
abbrev pub CompactedStarts : Type 0
CompactedStarts = (p : ℕ → ℕ) (v v' : View) → IsWhole v → IsTight v → (c : Compacts p v v') → (s : ℕ) → is_start ((store_of v').cell s) ≡ with_lists c.starts (store_of v) s

-- the room is that behind a full collection, up to names
pub record HasRoomBehind (v v' : View) (place : ℕ → ℕ) : Type 0 where
  pub room : Room
  pub collected : RoomCollected (heap_room v) (marked_graph v) room
  pub figures : SameRoom room (heap_room v') place

abbrev pub CompactedHasRoom : Type 0
CompactedHasRoom = (p : ℕ → ℕ) (v v' : View) → IsWhole v → IsTight v → Compacts p v v' → (m : IsSweptHeap p v v') → HasRoomBehind v v' m.place
