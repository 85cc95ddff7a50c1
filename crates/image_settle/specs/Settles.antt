-- What settling starts from, and what its two walks make of each word.
use Rattle.std.specs.Prelude.{ℕ, ◌≡◌, ◌≢◌, ◌+◌, ◌-◌, ◌^◌, ◌<◌, ◌≤◌, List, take, drop, length, slice_index, true, if◌then◌else◌, nat_eq, nat_lt, Some}
use Rattle.std.specs.List.{Contains}
use Rattle.object_header.specs.Fields.{Fields, fields_of}
use Rattle.object_header.specs.Head.{class_of}
use Rattle.object_header.specs.declared.header.TheConstants.{FORWARDER_CLASS}
use Rattle.spur_graph.specs.Segments.{Segment, word_in}
use Rattle.object_header.specs.Chunks.{Chunk, Cuts, chunks}
use Rattle.spur_graph.specs.Cells.{Body, Cell, Empty, Moved, There, Store, cell_from, start_named, pointer_count, first, is_start, is_moved, is_there, is_formed}
use Rattle.spur_graph.specs.Ordinary.{body_at}
use Rattle.spur_graph.specs.Heaps.{HasNoUnusedBits}
use Rattle.image_words.specs.declared.image.ImageWords.{ImageWords}
use Rattle.image_words.specs.References.{IsImage, Leads}
use Rattle.heap_cells.specs.Settled.{IsNamed, word_of, settled_word, settled_root}
use Rattle.spur_graph.specs.FileStores.{file_store}

-- what the checks of an image's chunks, forwarders and class table leave: its objects are formed, and the maps and the roots are theirs
pub record IsReady (image : ImageWords) (words : List ℕ) : Type 0 where
  pub cut : Cuts words 0 (length words) (chunks words)
  pub formed : (s : ℕ) → is_there ((file_store image.map.now words).cell s) ≡ true → is_formed (body_at (file_store image.map.now words) s) ≡ true
  pub nil : is_there ((file_store image.map.now words).cell (first (file_store image.map.now words) 0)) ≡ true
  pub named : IsNamed (file_store image.map.now words)
  pub maps : IsImage (file_store image.map.now words) image
  pub leads : Leads (file_store image.map.now words) words
  pub small : length words ≤ 2 ^ 27

-- the maps and the roots are those of a store in which each start that a word names is that of one of its words, and so is nil
pub record Follows (h : Store) (image : ImageWords) : Type 0 where
  pub maps : IsImage h image
  pub below : (w s : ℕ) → h.to w ≡ Some s → s < h.names
  pub nil : first h 0 < h.names
  pub small : h.names ≤ 2 ^ 27

-- the word is no header, and not that of a forwarder
pub record IsLoose (h : Store) (j : ℕ) : Type 0 where
  pub header : (s : ℕ) → is_start (h.cell s) ≡ true → s ≢ j
  pub target : (s : ℕ) → is_moved (h.cell s) ≡ true → s + 1 ≢ j

-- the header and the slots of a chunk, and that the slots of an object are loose
pub record IsNext (h : Store) (words : List ℕ) (header start slots : ℕ) : Type 0 where
  pub target : ℕ
  pub cell : h.cell start ≡ cell_from (fields_of header) target (take slots (drop (start + 1) words))
  pub below : start + 1 < length words
  pub fits : start + 1 + slots ≤ length words
  pub formed : is_there (h.cell start) ≡ true → is_formed (body_at h start) ≡ true
  pub loose : is_there (h.cell start) ≡ true → (j : ℕ) → start < j → j < start + 1 + slots → IsLoose h j
  pub apart : (s : ℕ) → is_moved (h.cell s) ≡ true → s + 1 ≢ start

-- a header without mark, grey and remembered bit
abbrev pub unmarked : Fields → Fields
unmarked f = record f { marked = 0; grey = 0; remembered = 0 }

-- slot `i` of the object at a start
abbrev pub settled_slot : Store → ℕ → Body → ℕ → ℕ → ℕ
settled_slot h s b i word =
    if nat_eq s (first h 4) then settled_root h i word
    else if nat_eq s (first h 3) then word
    else if nat_lt i (pointer_count b) then settled_word h word else word

-- slot `i` of what stands at a start; the words of forwarders come last
abbrev pub slot_in : Store → ℕ → Cell → ℕ → ℕ → ℕ
slot_in h s Empty i word = word
slot_in h s (Moved t) i word = word
slot_in h s (There b) i word = settled_slot h s b i word

-- the first walk makes this of word `j` of a chunk
pub record IsCleared (h : Store) (old : List ℕ) (c : Chunk) (j new : ℕ) : Type 0 where
  pub header : j ≡ c.start → fields_of new ≡ unmarked (fields_of (slice_index old j))
  pub unused : j ≡ c.start → HasNoUnusedBits new
  pub slots : c.start < j → j < c.start + 1 + c.slots → new ≡ slot_in h c.start (h.cell c.start) (j - c.start - 1) (slice_index old j)
  pub before : j < c.start → new ≡ slice_index old j
  pub behind : c.start + 1 + c.slots ≤ j → new ≡ slice_index old j

-- the second walk makes this of it
pub record IsTurned (segs : List Segment) (old : List ℕ) (c : Chunk) (j new : ℕ) : Type 0 where
  pub target : class_of (slice_index old c.start) ≡ FORWARDER_CLASS → j ≡ c.start + 1 → new ≡ word_of (start_named (word_in segs 0) old (slice_index old j))
  pub kept : class_of (slice_index old c.start) ≢ FORWARDER_CLASS → new ≡ slice_index old j
  pub others : j ≢ c.start + 1 → new ≡ slice_index old j

-- none of these chunks is a forwarder
abbrev pub HaveNoForwarder : List ℕ → List Chunk → Type 0
HaveNoForwarder words cs = (c : Chunk) → Contains cs c → class_of (slice_index words c.start) ≢ FORWARDER_CLASS
