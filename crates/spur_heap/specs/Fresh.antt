-- The words of a fresh object, as they are written in a run of words.
use Rattle.std.specs.Prelude.{ℕ, ◌≡◌, ◌≢◌, ◌⊎◌, ◌+◌, ◌<◌, ◌≤◌, List, length, replicate, slice_index, true, if◌then◌else◌, nat_lt}
use Rattle.heap_walk.specs.Starts.{has_start, covered}
use Rattle.object_header.specs.Chunks.{Chunk}
use Rattle.object_header.specs.Head.{count_of, overflow_slots_of}
use Rattle.object_header.specs.Fields.{fields_of}
use Rattle.object_header.specs.declared.header.TheConstants.{OVERFLOW_COUNT}
use Rattle.spur_graph.specs.Cells.{Body, first}
use Rattle.spur_graph.specs.Room.{is_long, fresh_words}
use Rattle.spur_graph.specs.Heaps.{View, HasNoUnusedBits, store_of}
use Rattle.heap_cells.specs.Settled.{word_of}
use Rattle.spur_heap.specs.declared.heap.HeapParts.{HeapParts}

-- the start of an object of so many slots whose run begins at `at`: an overflow word may stand before it
abbrev pub fresh_start : (at slots : ℕ) → ℕ
fresh_start at slots = if is_long slots then at + 1 else at

-- its chunk
abbrev pub fresh_chunk : (at slots : ℕ) → Chunk
fresh_chunk at slots = record { at = at; start = fresh_start at slots; size = fresh_words slots; slots = slots }

-- its slots have one word, and no flag is set
abbrev pub fresh_body : (class format slots fill : ℕ) → Body
fresh_body class format slots fill = record { class = class; hash = 0; format = format; pinned = 0; readonly = 0; words = replicate slots fill }

-- the header of a fresh object: class index, format and count, and no other bit
pub record IsFreshHeader (word count class format : ℕ) : Type 0 where
  pub fields : fields_of word ≡ record { count = count; marked = 0; hash = 0; grey = 0; pinned = 0; remembered = 0; format = format; readonly = 0; class = class }
  pub unused : HasNoUnusedBits word

-- the run of words from `at` on is a fresh object, whose slots have one word
pub record IsFreshRun (words : List ℕ) (at class format slots fill : ℕ) : Type 0 where
  pub overflow : is_long slots ≡ true → (count_of (slice_index words at) ≡ OVERFLOW_COUNT) × (overflow_slots_of (slice_index words at) ≡ slots)
  pub header : IsFreshHeader (slice_index words (fresh_start at slots)) (if is_long slots then OVERFLOW_COUNT else slots) class format
  pub filled : (j : ℕ) → fresh_start at slots + 1 ≤ j → j < fresh_start at slots + 1 + slots → slice_index words j ≡ fill

-- the words outside the run from `at` on of so many words are the same
abbrev pub SameOutside : List ℕ → List ℕ → ℕ → ℕ → Type 0
SameOutside old new at n = (j : ℕ) → (j < at) ⊎ (at + n ≤ j) → slice_index new j ≡ slice_index old j

-- the word in each slot of a fresh object: nil's where the slots are pointers
abbrev pub fill_word : View → ℕ → ℕ
fill_word v format = if nat_lt format 6 then word_of (first (store_of v) 0) else 0

-- an object was written at the run from `at` on; its start is in the map, and it is counted
pub record PutsObject (old new : HeapParts) (at class format slots word start : ℕ) : Type 0 where
  pub place : start ≡ fresh_start at slots
  pub run : IsFreshRun new.region at class format slots word
  pub long : length new.region ≡ length old.region
  pub others : SameOutside old.region new.region at (fresh_words slots)
  pub here : has_start new.starts start ≡ true
  pub elsewhere : (s : ℕ) → s ≢ start → has_start new.starts s ≡ has_start old.starts s
  pub covers : covered new.starts ≡ covered old.starts
  pub rest : new ≡ record old { region = new.region; starts = new.starts; objects = old.objects + 1 }
