-- The bytes of a heap that is saved. Old space up to its last chunk that is no free one, the used eden and the used past space are closed up; chunks keep
-- their order and their sizes, so that a word's place in the file is its place in the region less what was cut out before it. Of a free chunk and of a
-- forwarder nothing is saved but its size: each is written as the free chunk of so many words.
use Rattle.std.specs.Prelude.{ℕ, ◌≡◌, ◌⊎◌, ◌+◌, ◌-◌, ◌*◌, ◌/◌, ◌%◌, ◌^◌, List, [], ◌∷◌, ◌++◌, map, take, slice_index, Bool, if◌then◌else◌, nat_eq, nat_lt}
use Rattle.std.specs.List.{flat_map, range_with_len}
use Rattle.std.specs.Int.{w64, to_le_bytes}
use Rattle.object_header.specs.Fields.{Fields, fields_of, free_header}
use Rattle.object_header.specs.Head.{class_of}
use Rattle.object_header.specs.declared.header.TheConstants.{FREE_CLASS, OVERFLOW_COUNT}
use Rattle.spur_graph.specs.BaseImage.{overflow_word}
use Rattle.spur_graph.specs.ImageFile.{base, spur_format}
use Rattle.object_header.specs.Chunks.{Chunk}
use Rattle.spur_graph.specs.Cells.{pointer_count, first, final, is_there}
use Rattle.spur_graph.specs.Ordinary.{body_at}
use Rattle.spur_graph.specs.Spaces.{Spaces, old_row, rows}
use Rattle.spur_graph.specs.Heaps.{View, store_of}
use Rattle.image_header.specs.declared.header.ImageHeader.{ImageHeader}
use Rattle.image_header.specs.Headers.{written}

-- ---- what is saved, and where it stands in the file

-- a chunk is a free one
abbrev pub is_free : List ℕ → Chunk → Bool
is_free words c = nat_eq (class_of (slice_index words c.start)) FREE_CLASS

-- the end of the last of some chunks that is no free one; `end` where all are free
unfoldable pub kept_from : List ℕ → ℕ → List Chunk → ℕ
kept_from words end [] = end
kept_from words end (c ∷ cs) = kept_from words (if is_free words c then end else c.at + c.size) cs

-- where the part of old space ends that is saved
unfoldable pub cut : View → ℕ
cut v = kept_from v.words 0 (old_row v.words v.spaces)

-- the spaces without the free chunks at the end of old space
abbrev pub trimmed : View → Spaces
trimmed v = record v.spaces { old_end = cut v }

-- the chunks that are saved, in the order of the file
abbrev pub saved_chunks : View → List Chunk
saved_chunks v = rows v.words (trimmed v)

-- how many words of chunks the file has
abbrev pub file_words : View → ℕ
file_words v = cut v + v.spaces.eden_used + v.spaces.past_used

-- the place in the file's heap of a word of the region that is saved
unfoldable pub file_place : View → ℕ → ℕ
file_place v s =
    if nat_lt s (cut v) then s
    else if nat_lt s (v.spaces.eden_at + v.spaces.eden_used) then cut v + (s - v.spaces.eden_at)
    else cut v + v.spaces.eden_used + (s - v.spaces.past_at)

-- the word of the region that is saved as word `i` of the file's heap
unfoldable pub region_place : View → ℕ → ℕ
region_place v i =
    if nat_lt i (cut v) then i
    else if nat_lt i (cut v + v.spaces.eden_used) then v.spaces.eden_at + (i - cut v)
    else v.spaces.past_at + (i - (cut v + v.spaces.eden_used))

-- the first of some chunks, in order, that ends behind a word
unfoldable pub chunk_over : List Chunk → ℕ → Chunk
chunk_over [] q = record { at = 0; start = 0; size = 0; slots = 0 }
chunk_over (c ∷ cs) q = if nat_lt q (c.at + c.size) then c else chunk_over cs q

-- ---- the words

-- a header with these fields but no mark, grey or remembered bit, and no bit of no field
abbrev pub header_from : Fields → ℕ
header_from f = f.count * 2 ^ 56 + f.hash * 2 ^ 32 + f.pinned * 2 ^ 30 + f.format * 2 ^ 24 + f.readonly * 2 ^ 23 + f.class

-- the header of an object
unfoldable pub saved_header : ℕ → ℕ
saved_header word = header_from (fields_of word)

-- the address of a word of the file's heap
abbrev pub address : View → ℕ → ℕ
address v s = base v.carried + 8 * file_place v s

-- the word of a pointer slot, followed
unfoldable pub saved_value : View → ℕ → ℕ
saved_value v word = if nat_eq (word % 8) 0 then address v (final (store_of v) (word / 8)) else word

-- how many words behind the header are values
unfoldable pub value_count : View → ℕ → ℕ
value_count v s = pointer_count (body_at (store_of v) s)

-- word `k` behind the header of the object at `s`; those of the free lists object are written as 0
unfoldable pub saved_slot : View → ℕ → ℕ → ℕ
saved_slot v s k =
    if nat_eq s (first (store_of v) 3) then 0
    else if nat_lt k (value_count v s) then saved_value v (slice_index v.words (s + 1 + k))
    else slice_index v.words (s + 1 + k)

-- the word `q` of the region, in the object at `s`
unfoldable pub object_word : View → ℕ → ℕ → ℕ
object_word v s q =
    if nat_lt q s then slice_index v.words q
    else if nat_eq q s then saved_header (slice_index v.words q)
    else saved_slot v s (q - (s + 1))

-- word `k` of a free chunk of `size` words: its head words, and 0 behind them. It has an overflow word exactly where it has more than 255 words
unfoldable pub free_word : ℕ → ℕ → ℕ
free_word size k =
    if nat_lt 255 size then (if nat_eq k 0 then overflow_word (size - 2) else if nat_eq k 1 then free_header OVERFLOW_COUNT else 0)
    else if nat_eq k 0 then free_header (size - 1) else 0

-- an object stands there
abbrev pub has_object : View → ℕ → Bool
has_object v s = is_there ((store_of v).cell s)

-- the word `q` of the region, in this chunk, as it is saved. What is no object is a free chunk or a forwarder
unfoldable pub saved_at : View → Chunk → ℕ → ℕ
saved_at v c q = if has_object v c.start then object_word v c.start q else free_word c.size (q - c.at)

-- word `i` of the file's heap; behind the chunks stands a bridge of two words 0
unfoldable pub saved_word : View → ℕ → ℕ
saved_word v i =
    if nat_lt i (file_words v) then saved_at v (chunk_over (saved_chunks v) (region_place v i)) (region_place v i)
    else 0

-- the words of the chunks
unfoldable pub saved_words : View → List ℕ
saved_words v = map (saved_word v) (range_with_len 0 (file_words v))

-- ---- the bytes

-- the bytes of `n` words of the heap, from the word `from` on
unfoldable pub word_bytes : View → ℕ → ℕ → List ℕ
word_bytes v from n = flat_map (to_le_bytes w64) (map (saved_word v) (range_with_len from n))

-- the bytes of the heap: the bridge counts
abbrev pub saved_bytes : View → ℕ
saved_bytes v = 8 * (file_words v + 2)

-- the header
abbrev pub saved_head : View → ImageHeader
saved_head v = record {
  format = spur_format;
  heap_bytes = saved_bytes v;
  base = base v.carried;
  special = saved_value v v.special;
  last_hash = v.hash;
  first_segment = saved_bytes v;
  carried = v.carried;
}

-- the file up to the heap's word `n`
unfoldable pub saved_front : View → ℕ → List ℕ
saved_front v n = written (saved_head v) ++ word_bytes v 0 n

-- the bytes of the file
unfoldable pub saved_text : View → List ℕ
saved_text v = saved_front v (file_words v + 2)

-- ---- what a save makes of a file

-- the file is the heap's
abbrev pub IsSaved : View → List ℕ → List ℕ → Type 0
IsSaved v old new = new ≡ saved_text v

-- the file is as before or a prefix of the heap's, so it may be empty
abbrev pub IsCutShort : View → List ℕ → List ℕ → Type 0
IsCutShort v old new = (new ≡ old) ⊎ ((k : ℕ) × (new ≡ take k (saved_text v)))
