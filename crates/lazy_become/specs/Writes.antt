-- What exchange and forwarding make of a heap, and which of its words they write.
use Rattle.std.specs.Prelude.{ℕ, ◌≡◌, ◌≢◌, Bool, true, slice_index, Some}
use Rattle.spur_graph.specs.Room.{Room}
use Rattle.spur_graph.specs.Become.{exchanged, needs_no_words, room_exchanged}
use Rattle.spur_graph.specs.Heaps.{View, Stands, heap_graph, heap_room}
use Rattle.spur_heap.specs.Views.{IsOutsideFree}
use Rattle.spur_heap.specs.Outside.{IsOutside, IsOutsideEden}

-- the heap stands for the graph in which the names are exchanged, and for its room, up to names
abbrev pub Exchanges : View → View → ℕ → ℕ → Type 0
Exchanges old new a b = (room : Room) × (room_exchanged (heap_room old) a b ≡ Some room) × Stands new (exchanged (heap_graph old) a b) room

-- handles, mourners, the special objects, the bytes of the image's header, the limits and the phase are as before
abbrev pub KeepsTables : View → View → Type 0
KeepsTables old new = new ≡ record old { words = new.words; spaces = new.spaces }

-- of one name nothing is written, of two that are exchanged in place words of the two objects alone; else words of the two, of the piece that was taken, and of free
-- chunks
pub record ExchangeWrites (old new : View) (a b : ℕ) : Type 0 where
  pub one : a ≡ b → new.words ≡ old.words
  pub in_place : needs_no_words (heap_room old) a b ≡ true → (j : ℕ) → IsOutside old a j → IsOutside old b j → slice_index new.words j ≡ slice_index old.words j
  pub moved : (j : ℕ) → IsOutside old a j → IsOutside old b j → IsOutsideFree old j → IsOutsideEden old new j → slice_index new.words j ≡ slice_index old.words j

-- of one name nothing is written, else words of the one that is forwarded, and the header word of the other where it gets the hash
pub record ForwardWrites (old new : View) (a b : ℕ) (with_hash : Bool) : Type 0 where
  pub one : a ≡ b → new.words ≡ old.words
  pub moved : (j : ℕ) → IsOutside old a j → (with_hash ≡ true → j ≢ b) → slice_index new.words j ≡ slice_index old.words j
