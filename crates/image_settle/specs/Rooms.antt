-- The room behind the settled words, which is one free chunk.
use Rattle.std.specs.Prelude.{ℕ, ◌≡◌, ◌+◌, ◌-◌, List, [], ◌∷◌, ◌++◌, length, slice_index, true, if◌then◌else◌, nat_eq, nat_lt}
use Rattle.std.specs.List.{All}
use Rattle.object_header.specs.Fields.{fields_of}
use Rattle.object_header.specs.declared.header.TheConstants.{FREE_CLASS}
use Rattle.object_header.specs.Chunks.{Chunk, leads, chunk_of, Cuts, chunks}
use Rattle.spur_graph.specs.Cells.{Moved, Store, is_there}
use Rattle.spur_graph.specs.Heaps.{row_store, IsClear}
use Rattle.heap_cells.specs.Settled.{IsNamed, IsSettled}

-- a free chunk of so many words; from 256 up it has an overflow word
abbrev pub room_chunk : ℕ → ℕ → Chunk
room_chunk at room = record {
  at = at;
  start = if nat_lt 255 room then at + 1 else at;
  size = room;
  slots = if nat_lt 255 room then room - 2 else room - 1;
}

-- the chunks of a room, which may have no words
abbrev pub room_chunks : ℕ → ℕ → List Chunk
room_chunks at room = if nat_eq room 0 then [] else room_chunk at room ∷ []

-- a free chunk of so many words stands there
pub record IsRoom (words : List ℕ) (at room : ℕ) : Type 0 where
  pub chunk : chunk_of at (slice_index words at) ≡ room_chunk at room
  pub twice : leads (slice_index words (room_chunk at room).start) ≡ leads (slice_index words at)
  pub free : (fields_of (slice_index words (room_chunk at room).start)).class ≡ FREE_CLASS
  pub clear : IsClear (slice_index words (room_chunk at room).start)

-- words that are settled, and nothing behind them
pub record IsAlone (h : Store) (words : List ℕ) : Type 0 where
  pub named : IsNamed h
  pub resolved : (s t : ℕ) → h.cell s ≡ Moved t → is_there (h.cell t) ≡ true
  pub settled : IsSettled h (row_store words)
  pub cut : Cuts words 0 (length words) (chunks words)
  pub clear : All (λ (c : Chunk). IsClear (slice_index words c.start)) (chunks words)

-- settled words with a room behind them
pub record HasRoom (h : Store) (words new : List ℕ) (room : ℕ) : Type 0 where
  pub settled : IsSettled h (row_store new)
  pub cut : Cuts new 0 (length new) (chunks new)
  pub chunks_are : chunks new ≡ chunks words ++ room_chunks (length words) room
  pub clear : All (λ (c : Chunk). IsClear (slice_index new c.start)) (chunks new)
