-- Segments that rise, and which word of the heap has which address.
use Rattle.std.specs.Prelude.{◌≡◌, ◌≤◌, ◌<◌, ℕ, ◌+◌, ◌*◌, ◌%◌, List, [], ◌∷◌, length, slice_index_or, Some, Bool, nat_eq, nat_lt, ◌&&◌, ◌||◌, not}
use Rattle.spur_graph.specs.Segments.{Segment, bridge_bytes, greatest_end, most_segments, end_of, is_bad_size, word_count, total_words, word_in, address_in}

-- a segment begins at this address or above it, and is whole words with a bridge at least
pub record IsAbove (floor : ℕ) (s : Segment) : Type 0 where
  pub above : floor ≤ s.address
  pub aligned : s.address % 8 ≡ 0
  pub whole : s.size % 8 ≡ 0
  pub some : bridge_bytes ≤ s.size
  pub low : end_of s ≤ greatest_end

-- each segment begins at the end of the one before or above it, and the first at this address or above it
abbrev pub IsRising : ℕ → List Segment → Type 0
IsRising floor [] = Unit {0}
IsRising floor (s ∷ rest) = IsAbove floor s × IsRising (end_of s) rest

-- the address behind some segments, of which the first begins at `address` or above it
unfoldable pub end_address : ℕ → List Segment → ℕ
end_address address [] = address
end_address address (s ∷ rest) = end_address (end_of s) rest

-- the place in the file behind some segments, of which the first has the place `at`
unfoldable pub end_place : ℕ → List Segment → ℕ
end_place at [] = at
end_place at (s ∷ rest) = end_place (s.at + s.size) rest

-- a segment of these; where there is none, one of no bytes
abbrev pub segment_at : List Segment → ℕ → Segment
segment_at segs i = slice_index_or segs i (record { at = 0; size = 0; address = 0 })

-- a segment can't follow these
abbrev pub is_refused : List Segment → ℕ → ℕ → ℕ → Bool
is_refused segs left size address = nat_eq (length segs) most_segments || is_bad_size left size address

-- the address is that of a word of the segment's objects
abbrev pub has_address : Segment → ℕ → Bool
has_address s address = nat_eq (address % 8) 0 && not (nat_lt address s.address) && nat_lt address (s.address + 8 * word_count s)

-- no word has two addresses
abbrev pub IsOneToOne : Type 0
IsOneToOne = (segs : List Segment) (a b n : ℕ) → IsRising 0 segs → word_in segs 0 a ≡ Some n → word_in segs 0 b ≡ Some n → a ≡ b

-- each word has its address
abbrev pub HasItsWord : Type 0
HasItsWord = (segs : List Segment) (n : ℕ) → IsRising 0 segs → n < total_words segs → word_in segs 0 (address_in segs n) ≡ Some n

-- an address that has a word is that word's
abbrev pub HasItsAddress : Type 0
HasItsAddress = (segs : List Segment) (a n : ℕ) → IsRising 0 segs → word_in segs 0 a ≡ Some n → (n < total_words segs) × (address_in segs n ≡ a)

-- words stand in the order of their addresses
abbrev pub AreInOrder : List Segment → Type 0
AreInOrder segs = (a b s t : ℕ) → word_in segs 0 a ≡ Some s → word_in segs 0 b ≡ Some t → a < b → s < t
