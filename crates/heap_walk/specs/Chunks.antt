-- A chunk as it is read, and its place in a row.
use Rattle.std.specs.Prelude.{ℕ, ◌≡◌, ◌+◌, List, [], ◌∷◌, Result, Ok, Err, nat_eq, if◌then◌else◌}
use Rattle.object_header.specs.declared.head.Head.{Head}
use Rattle.object_header.specs.declared.head.HeadError.{HeadError}
use Rattle.object_header.specs.declared.header.TheConstants.{FREE_CLASS, FORWARDER_CLASS}
use Rattle.object_header.specs.Chunks.{Chunk as RowChunk, Cuts}
use Rattle.object_header.specs.Head.{class_of}
use Rattle.heap_walk.specs.declared.chunk.Chunk.{Chunk}
use Rattle.heap_walk.specs.declared.chunk.ChunkKind.{ChunkKind}
use Rattle.heap_walk.specs.declared.chunk.ChunkKind.TheVariants.{Free, Object, Forwarder}

-- the kind of a chunk by its class index
abbrev pub kind_of : ℕ → ChunkKind
kind_of class = if nat_eq class FREE_CLASS then Free else if nat_eq class FORWARDER_CLASS then Forwarder else Object

-- the chunk at `at` whose head was read, or the fault of its head
abbrev pub chunk_read : ℕ → Result Head HeadError → Result Chunk HeadError
chunk_read at (Ok h) = Ok (record { at = at; start = at + h.lead; words = h.words; kind = kind_of (class_of h.header) })
chunk_read at (Err e) = Err e

-- a chunk that was read is this one of a row
pub record IsPlacedAs (c : Chunk) (d : RowChunk) : Type 0 where
  pub at : c.at ≡ d.at
  pub start : c.start ≡ d.start
  pub words : c.words ≡ d.size

-- a chunk that was read is the first of these, and the others cut the rest of the range that ends at `end`
abbrev pub IsFirstOf : List ℕ → ℕ → List RowChunk → Chunk → Type 0
IsFirstOf words end [] c = ⊥
IsFirstOf words end (d ∷ ds) c = IsPlacedAs c d × Cuts words (c.at + c.words) end ds
