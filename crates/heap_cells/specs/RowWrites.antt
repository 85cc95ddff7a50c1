-- A row of chunks, as it is written: what a write inside a chunk and a chunk behind the last one leave of it.
use Rattle.std.specs.Prelude.{ℕ, ◌≡◌, ◌+◌, ◌≤◌, List, [], ◌∷◌, ◌++◌, length, slice_index, if◌then◌else◌, nat_eq, Option}
use Rattle.std.specs.List.{Contains}
use Rattle.object_header.specs.Fields.{fields_of}
use Rattle.object_header.specs.Head.{class_of}
use Rattle.object_header.specs.declared.header.TheConstants.{FREE_CLASS}
use Rattle.object_header.specs.Chunks.{Chunk, leads, slots_told, chunk_of, Cuts, InOrder, chunks, slots_from}
use Rattle.spur_graph.specs.Cells.{Cell, Empty, cell_in, cell_from, read_cell, start_named}
use Rattle.heap_cells.specs.Rows.{starts_of}

-- ---- a start and its chunk

-- a cell is that of the chunk with this start, which its words tell, and where there is none, nothing stands
pub record ReadsCells (to : ℕ → Option ℕ) (words : List ℕ) (cs : List Chunk) : Type 0 where
  pub here : (c : Chunk) → Contains cs c → cell_in to words cs c.start ≡ read_cell to words c
  pub told : (c : Chunk) → Contains cs c → read_cell to words c ≡ cell_from (fields_of (slice_index words c.start)) (start_named to words (slice_index words (c.start + 1))) (slots_from words c.start)
  pub none : (s : ℕ) → (Contains (starts_of cs) s → ⊥) → cell_in to words cs s ≡ Empty

-- ---- writing inside a chunk

-- the words that tell a chunk tell the same one
pub record KeepsChunk (words new : List ℕ) (c : Chunk) : Type 0 where
  pub leads_first : leads (slice_index new c.at) ≡ leads (slice_index words c.at)
  pub slots : slots_told (slice_index new c.at) ≡ slots_told (slice_index words c.at)
  pub leads_start : leads (slice_index new c.start) ≡ leads (slice_index words c.start)

-- the row is as before, chunk by chunk, and so is each cell but that of one start
pub record Rewrites (to : ℕ → Option ℕ) (words new : List ℕ) (end : ℕ) (cs : List Chunk) (s : ℕ) (x : Cell) : Type 0 where
  pub row : InOrder new 0 end cs
  pub kept : (c : Chunk) → Contains cs c → KeepsChunk words new c
  pub cell : (t : ℕ) → cell_in to new cs t ≡ (if nat_eq t s then x else cell_in to words cs t)

-- ---- a chunk behind the last one

-- these words are one free chunk
pub record IsFreeChunk (room : List ℕ) : Type 0 where
  pub size : (chunk_of 0 (slice_index room 0)).size ≡ length room
  pub twice : leads (slice_index room (chunk_of 0 (slice_index room 0)).start) ≡ leads (slice_index room 0)
  pub free : class_of (slice_index room (chunk_of 0 (slice_index room 0)).start) ≡ FREE_CLASS

-- the row has this chunk behind the others, and each cell is as before
pub record Appends (to : ℕ → Option ℕ) (words room : List ℕ) (cs : List Chunk) (c : Chunk) : Type 0 where
  pub row : Cuts (words ++ room) 0 (length (words ++ room)) (cs ++ c ∷ [])
  pub chunks : chunks (words ++ room) ≡ cs ++ c ∷ []
  pub starts : starts_of (cs ++ c ∷ []) ≡ starts_of cs ++ c.start ∷ []
  pub behind : length words ≤ c.start
  pub cell : (s : ℕ) → cell_in to (words ++ room) (cs ++ c ∷ []) s ≡ cell_in to words cs s
