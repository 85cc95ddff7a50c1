-- A fresh object: what may be asked for, and what becomes of a heap that makes it.
use Rattle.std.specs.Prelude.{ℕ, ◌≡◌, ◌≢◌, ◌<◌, ◌≤◌, ◌+◌, ◌^◌, ◌⊎◌, slice_index, true, false, Some, None}
use Rattle.std.specs.List.{Contains}
use Rattle.std.specs.FinMap.{get}
use Rattle.object_header.specs.Chunks.{Chunk}
use Rattle.object_header.specs.Formats.{unused_of}
use Rattle.object_header.specs.declared.header.TheConstants.{FREE_CLASS, BRIDGE_CLASS, FORWARDER_CLASS}
use Rattle.spur_graph.specs.Graph.{with_node}
use Rattle.spur_graph.specs.Room.{placed, fresh_spot, fresh_words, is_old}
use Rattle.spur_graph.specs.Serve.{Source, Anywhere, OldAlone, Served, serve}
use Rattle.spur_graph.specs.Instances.{fresh_node}
use Rattle.spur_graph.specs.CellRoom.{is_free}
use Rattle.spur_graph.specs.Heaps.{View, chunks_of, heap_graph, heap_room, heap_value}
use Rattle.spur_heap.specs.Views.{store, IsGood, IsOrdinary, node_in}
use Rattle.spur_heap.specs.declared.allocation.Space.{Space}
use Rattle.spur_heap.specs.declared.allocation.Space.TheVariants as codes

-- where words are asked for
abbrev pub source_of : Space → Source
source_of codes.Any = Anywhere
source_of codes.Old = OldAlone

-- the format of an object whose slots are all pointers, or none is
abbrev pub IsFreshFormat : ℕ → Type 0
IsFreshFormat format = (format < 6) ⊎ ((9 ≤ format) × (format < 24))

-- an object may be made with this class index, this format and so many slots
pub record CanMake (class format slots : ℕ) : Type 0 where
  pub index : class < 2 ^ 22
  pub no_free : class ≢ FREE_CLASS
  pub no_bridge : class ≢ BRIDGE_CLASS
  pub no_forwarder : class ≢ FORWARDER_CLASS
  pub formed : IsFreshFormat format
  pub room : slots ≡ 0 → unused_of format ≡ 0
  pub few : slots ≤ 2 ^ 28

-- the words of what is no free chunk stay
abbrev pub KeepsObjects : View → View → Type 0
KeepsObjects old new =
    (c : Chunk) (j : ℕ) → Contains (chunks_of old) c → is_free (store old) c ≡ false → c.at ≤ j → j < c.at + c.size → slice_index new.words j ≡ slice_index old.words j

-- an object of so many slots was made: it is one node more, under its start, and stands in the space that served it; where that is old space, the spaces
-- are where they were. Each word that was good is good, and has its value
pub record Makes (old new : View) (source : Source) (class format slots s : ℕ) : Type 0 where
  pub served : Served
  pub serves : serve source (heap_room old) (fresh_words slots) ≡ Some served
  pub fresh : get (heap_graph old).nodes s ≡ None
  pub graph : heap_graph new ≡ with_node (heap_graph old) s (fresh_node (heap_graph old).nil class format slots)
  pub room : heap_room new ≡ placed served.room s (fresh_spot served.space slots)
  pub there : IsOrdinary new s
  pub node : node_in new s ≡ fresh_node (heap_graph old).nil class format slots
  pub values : (w : ℕ) → IsGood old w → heap_value new w ≡ heap_value old w
  pub goods : (w : ℕ) → IsGood old w → IsGood new w
  pub ordinary : (t : ℕ) → IsOrdinary old t → IsOrdinary new t
  pub rest : new ≡ record old { words = new.words; spaces = new.spaces }
  pub spaces : is_old served.space ≡ true → new.spaces ≡ old.spaces
  pub objects : KeepsObjects old new
