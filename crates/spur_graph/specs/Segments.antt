-- The segments of an image file. A segment has the words of objects and, behind them, a bridge of two words that tells of the next segment.
use Rattle.std.specs.Prelude.{ℕ, suc, zero, ◌+◌, ◌-◌, ◌*◌, ◌/◌, ◌%◌, ◌^◌, List, [], ◌∷◌, take, slice_range, Option, Some, None, Bool, if◌then◌else◌, nat_lt, nat_eq, ◌&&◌, ◌||◌, not}
use Rattle.std.specs.List.{flat_map, sum_by}
use Rattle.std.specs.Int.{w64}
use Rattle.object_header.specs.Head.{count_of, overflow_slots_of}
use Rattle.object_header.specs.declared.header.TheConstants.{OVERFLOW_COUNT}
use Rattle.spur_graph.specs.Bytes.{number, words_in}
use Rattle.spur_graph.specs.ImageFile.{header_bytes, heap_bytes, base, first_segment}
use Rattle.spur_graph.specs.declared.layout.TheConstants.{BRIDGE_BYTES, GREATEST_END}

-- the bytes of a bridge
abbrev pub bridge_bytes : ℕ
bridge_bytes = BRIDGE_BYTES

-- no segment ends past this address
abbrev pub greatest_end : ℕ
greatest_end = GREATEST_END

-- how many segments an image may have
abbrev pub most_segments : ℕ
most_segments = 4096

-- a segment: its place in the file, its bytes with the bridge, and its address
pub record Segment : Type 0 where
  pub at : ℕ
  pub size : ℕ
  pub address : ℕ

-- the bytes of the first segment; 0 in the header means the whole heap
abbrev pub first_size : List ℕ → ℕ
first_size bytes = if nat_eq (first_segment bytes) 0 then heap_bytes bytes else first_segment bytes

-- a segment can't have this size at this address, where so many bytes of the heap are left
abbrev pub is_bad_size : ℕ → ℕ → ℕ → Bool
is_bad_size left size address = not (nat_eq (size % 8) 0) || nat_lt size bridge_bytes || nat_lt left size || nat_lt greatest_end (address + size)

-- the words between a segment and the next one, by the first word of the bridge
abbrev pub gap_of : ℕ → ℕ
gap_of word = if nat_eq (count_of word) OVERFLOW_COUNT then overflow_slots_of word else 0

-- the address behind a segment
abbrev pub end_of : Segment → ℕ
end_of s = s.address + s.size

-- the bytes of the heap from a segment on
abbrev pub left : List ℕ → Segment → ℕ
left bytes s = header_bytes + heap_bytes bytes - s.at

-- a segment's place, size and address can be
abbrev pub is_good : List ℕ → Segment → Bool
is_good bytes s = not (is_bad_size (left bytes s) s.size s.address)

-- the two words of a segment's bridge
abbrev pub bridge_first : List ℕ → Segment → ℕ
bridge_first bytes s = number w64 (s.at + s.size - 16) bytes

abbrev pub bridge_second : List ℕ → Segment → ℕ
bridge_second bytes s = number w64 (s.at + s.size - 8) bytes

-- the bridge ends the chain
abbrev pub is_last : List ℕ → Segment → Bool
is_last bytes s = nat_eq (bridge_second bytes s) 0

-- the segment that the bridge of one tells
abbrev pub next_of : List ℕ → Segment → Segment
next_of bytes s = record { at = s.at + s.size; size = bridge_second bytes s; address = end_of s + 8 * gap_of (bridge_first bytes s) }

-- segment `i`, as far as the chain goes
unfoldable pub segment : List ℕ → ℕ → Segment
segment bytes zero = record { at = header_bytes; size = first_size bytes; address = base bytes }
segment bytes (suc i) = next_of bytes (segment bytes i)

-- the good segments from number `i` on, at most so many
unfoldable pub chain : List ℕ → ℕ → ℕ → List Segment
chain bytes i zero = []
chain bytes i (suc most) =
    if is_good bytes (segment bytes i) then segment bytes i ∷ (if is_last bytes (segment bytes i) then [] else chain bytes (i + 1) most) else []

unfoldable pub segments : List ℕ → List Segment
segments bytes = chain bytes 0 most_segments

-- how many words of objects a segment has
abbrev pub word_count : Segment → ℕ
word_count s = (s.size - bridge_bytes) / 8

-- the words of the objects of a segment
abbrev pub segment_words : List ℕ → Segment → List ℕ
segment_words bytes s = words_in (slice_range bytes s.at (s.at + s.size - bridge_bytes))

-- the words of the heap: those of the objects of all segments, one after another
unfoldable pub all_words : List ℕ → List ℕ
all_words bytes = flat_map (segment_words bytes) (segments bytes)

-- how many words of objects some segments have
abbrev pub total_words : List Segment → ℕ
total_words segs = sum_by word_count segs

-- the word of the heap at which segment `i` begins
abbrev pub begin : List ℕ → ℕ → ℕ
begin bytes i = total_words (take i (segments bytes))

-- the place in the file of a word of the heap, or of its end
unfoldable pub offset_in : List Segment → ℕ → ℕ
offset_in [] n = 0
offset_in (s ∷ []) n = s.at + 8 * n
offset_in (s ∷ t ∷ rest) n = if nat_lt n (word_count s) then s.at + 8 * n else offset_in (t ∷ rest) (n - word_count s)

-- the word of the heap that has an address, where the first of these segments begins at the word `at`; none where the address is no multiple
-- of 8 or lies in no segment's objects
unfoldable pub word_in : List Segment → ℕ → ℕ → Option ℕ
word_in [] at address = None
word_in (s ∷ rest) at address =
    if nat_eq (address % 8) 0 && not (nat_lt address s.address) && nat_lt address (s.address + 8 * word_count s) then Some (at + (address - s.address) / 8)
    else word_in rest (at + word_count s) address

-- the address of a word of the heap
unfoldable pub address_in : List Segment → ℕ → ℕ
address_in [] n = 0
address_in (s ∷ rest) n = if nat_lt n (word_count s) then s.address + 8 * n else address_in rest (n - word_count s)
