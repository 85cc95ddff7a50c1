-- The places of a heap, as the walk over its words has them.
use Rattle.std.specs.Prelude.{ℕ, ◌≡◌, ◌+◌, ◌≤◌, ◌<◌, length, if◌then◌else◌, Option, Some, None}
use Rattle.std.specs.List.{Contains}
use Rattle.spur_graph.specs.ImageFile.{base}
use Rattle.spur_graph.specs.ImageCauses.{greatest_base, most_words}
use Rattle.object_header.specs.Chunks.{Chunk}
use Rattle.spur_graph.specs.Cells.{first}
use Rattle.spur_graph.specs.Heaps.{View, store_of}
use Rattle.image_save.specs.declared.places.Places.{Places}
use Rattle.image_save.specs.declared.cursor.Cursor.{Cursor}
use Rattle.image_save.specs.Saved.{cut, file_words, region_place, saved_chunks, has_object, value_count}

-- the numbers are those of the heap, and small
pub record ArePlaces (v : View) (p : Places) : Type 0 where
  pub cut_is : p.cut ≡ cut v
  pub eden_is : p.eden_at ≡ v.spaces.eden_at
  pub eden_end_is : p.eden_end ≡ v.spaces.eden_at + v.spaces.eden_used
  pub past_from_is : p.past_from ≡ cut v + v.spaces.eden_used
  pub past_is : p.past_at ≡ v.spaces.past_at
  pub words_is : p.words ≡ file_words v
  pub base_is : p.base ≡ base v.carried
  pub lists_is : p.lists ≡ first (store_of v) 3
  pub low : base v.carried ≤ greatest_base
  -- each part stands at its place in the file or behind
  pub eden_behind : cut v ≤ v.spaces.eden_at
  pub past_behind : v.spaces.eden_at + v.spaces.eden_used ≤ v.spaces.past_at
  pub within : v.spaces.past_at + v.spaces.past_used ≤ length v.words
  pub few : length v.words ≤ most_words

-- a word of the region is in one of the parts that are saved
pub record HasPlace (v : View) (s : ℕ) : Type 0 where
  pub eden : cut v ≤ s → v.spaces.eden_at ≤ s
  pub past : v.spaces.eden_at + v.spaces.eden_used ≤ s → v.spaces.past_at ≤ s
  pub inside : s < v.spaces.past_at + v.spaces.past_used

-- a chunk that is saved begins at the word
pub record Begins (v : View) (q : ℕ) : Type 0 where
  pub chunk : Chunk
  pub saved : Contains (saved_chunks v) chunk
  pub here : chunk.at ≡ q

-- a chunk that is saved has the word
pub record Covers (v : View) (c : Chunk) (q : ℕ) : Type 0 where
  pub saved : Contains (saved_chunks v) c
  pub from : c.at ≤ q
  pub to : q < c.at + c.size

-- how many slots of the object at a start are pointers; none where no object stands
abbrev pub pointers_at : View → ℕ → Option ℕ
pointers_at v s = if has_object v s then Some (value_count v s) else None

-- the cursor is at the chunk that has the word
pub record IsAt (v : View) (q : ℕ) (cursor : Cursor) : Type 0 where
  pub chunk : Chunk
  pub covers : Covers v chunk q
  pub at_is : cursor.at ≡ chunk.at
  pub start_is : cursor.start ≡ chunk.start
  pub end_is : cursor.end ≡ chunk.at + chunk.size
  pub pointers_are : cursor.pointers ≡ pointers_at v chunk.start

-- the cursor is at the chunk of word `i` of the file, or before it, and then a chunk begins there
pub record IsReady (v : View) (i : ℕ) (cursor : Cursor) : Type 0 where
  pub at : i < file_words v → region_place v i < cursor.end → IsAt v (region_place v i) cursor
  pub next : i < file_words v → cursor.end ≤ region_place v i → Begins v (region_place v i)
