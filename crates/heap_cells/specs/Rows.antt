-- A row of chunks, as it is read: what a start tells, where starts stand, and how a range that is read without a fault becomes a row.
use Rattle.std.specs.Prelude.{ℕ, ◌≡◌, ◌≢◌, ◌+◌, ◌<◌, ◌≤◌, max, List, map, length, slice_index, slice_index_or, true, nat_eq, Option, Ok}
use Rattle.std.specs.List.{All, Contains}
use Rattle.object_header.specs.Fields.{fields_of}
use Rattle.object_header.specs.Head.{class_of}
use Rattle.object_header.specs.declared.head.Head.{Head}
use Rattle.object_header.specs.declared.header.TheConstants.{FREE_CLASS, FORWARDER_CLASS}
use Rattle.object_header.specs.Chunks.{Chunk, leads, chunk_of, IsChunk, Cuts, chunks, slots_at, slots_from}
use Rattle.spur_graph.specs.Cells.{Body, cell_in, cell_from, body_from, start_named, is_moved, is_there, target_of, body_of, is_formed, pointer_count, unit_count}
use Rattle.spur_graph.specs.Places.{head_at, place, IsBadObject}

-- the starts of a row
abbrev pub starts_of : List Chunk → List ℕ
starts_of cs = map (λ (c : Chunk). c.start) cs

-- what the words at a start tell of what stands there, where these chunks stand in order among the words up to `end`
pub record ReadsStart (to : ℕ → Option ℕ) (words : List ℕ) (end : ℕ) (cs : List Chunk) (s : ℕ) : Type 0 where
  pub stands : Contains (starts_of cs) s
  pub below : s + 1 < end
  pub fits : s + 1 + slots_at words s ≤ end
  pub behind : leads (slice_index words s) ≡ true → 1 ≤ s
  pub not_free : class_of (slice_index words s) ≢ FREE_CLASS
  pub cell : cell_in to words cs s ≡ cell_from (fields_of (slice_index words s)) (start_named to words (slice_index words (s + 1))) (slots_from words s)
  pub moved : is_moved (cell_in to words cs s) ≡ nat_eq (class_of (slice_index words s)) FORWARDER_CLASS
  pub target : is_moved (cell_in to words cs s) ≡ true → target_of (cell_in to words cs s) ≡ start_named to words (slice_index words (s + 1))
  pub body : is_there (cell_in to words cs s) ≡ true → body_of (cell_in to words cs s) ≡ body_from (fields_of (slice_index words s)) (slots_from words s)

-- the chunk of the start `s` ends before that of the start `t` begins
pub record EndsBefore (words : List ℕ) (s t : ℕ) : Type 0 where
  pub next : s + 2 ≤ t
  pub slots : s + 1 + slots_at words s ≤ t
  pub behind : leads (slice_index words t) ≡ true → s + 2 + max 1 (slots_at words s) ≤ t

-- where the starts of a row stand
pub record AreStarts (words : List ℕ) (end : ℕ) (cs : List Chunk) : Type 0 where
  pub rising : (i j : ℕ) → i < j → j < length (starts_of cs) → slice_index (starts_of cs) i < slice_index (starts_of cs) j
  pub below : All (λ s. s < end) (starts_of cs)
  pub fit : (s : ℕ) → Contains (starts_of cs) s → s + 1 + max 1 (slots_at words s) ≤ end
  pub apart : (s t : ℕ) → Contains (starts_of cs) s → Contains (starts_of cs) t → s < t → EndsBefore words s t

-- the slots of an object whose head was read
pub record ReadsObject (b : Body) (h : Head) : Type 0 where
  pub formed : is_formed b ≡ true
  pub pointers : pointer_count b ≡ h.pointers
  pub units : unit_count b ≡ h.units

-- the chunk whose head was read in a range that ends at `end`
pub record ReadsHead (words : List ℕ) (end at : ℕ) (h : Head) : Type 0 where
  pub chunk : IsChunk words at (chunk_of at (slice_index words at))
  pub size : (chunk_of at (slice_index words at)).size ≡ h.words
  pub start : (chunk_of at (slice_index words at)).start ≡ at + h.lead
  pub slots : (chunk_of at (slice_index words at)).slots ≡ h.slots
  pub fits : at + h.words ≤ end
  pub header : h.header ≡ slice_index words (at + h.lead)
  pub told : slots_at words (at + h.lead) ≡ h.slots
  pub object : class_of h.header ≢ FREE_CLASS → class_of h.header ≢ FORWARDER_CLASS → ReadsObject (body_from (fields_of h.header) (slots_from words (at + h.lead))) h

-- no chunk of a range is refused
abbrev pub AllRead : List ℕ → ℕ → ℕ → Type 0
AllRead words from end = (n : ℕ) → IsBadObject words from end n → ⊥

-- a range is cut into these chunks, and each object among them is formed
pub record CutsFormed (words : List ℕ) (from end : ℕ) (cs : List Chunk) : Type 0 where
  pub row : Cuts words from end cs
  pub formed : (to : ℕ → Option ℕ) (s : ℕ) → is_there (cell_in to words cs s) ≡ true → is_formed (body_of (cell_in to words cs s)) ≡ true

-- all words are cut, and each chunk is read without a fault when the whole is read as one range
pub record AllAreCut (words : List ℕ) : Type 0 where
  pub cut : CutsFormed words 0 (length words) (chunks words)
  pub read : AllRead words 0 (length words)

-- chunk `k` of some words is where the walk over all of them is after `k` steps
pub record IsPlace (words : List ℕ) (k : ℕ) : Type 0 where
  pub head : Head
  pub inside : place words 0 (length words) k < length words
  pub read : head_at words (length words) (place words 0 (length words) k) ≡ Ok head
  pub at : (d : Chunk) → (slice_index_or (chunks words) k d).at ≡ place words 0 (length words) k
  pub start : slice_index (starts_of (chunks words)) k ≡ place words 0 (length words) k + head.lead
