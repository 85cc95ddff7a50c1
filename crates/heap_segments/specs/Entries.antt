-- The entries of an address map: segments, each with the word at which it begins.
use Rattle.std.specs.Prelude.{◌≡◌, ◌≤◌, ◌<◌, ℕ, ◌+◌, ◌*◌, ◌/◌, ◌%◌, ◌-◌, List, [], ◌∷◌, map, length, slice_index_or, Option, Some, None, if◌then◌else◌}
use Rattle.spur_graph.specs.ImageFile.{header_bytes}
use Rattle.spur_graph.specs.Segments.{Segment, bridge_bytes, greatest_end, most_segments, word_count}
use Rattle.heap_segments.specs.Rising.{IsAbove, has_address}
use Rattle.heap_segments.specs.declared.entry.Entry.{Entry}

abbrev pub segment_of : Entry → Segment
segment_of e = record { at = e.at; size = e.size; address = e.address }

abbrev pub segments_of : List Entry → List Segment
segments_of es = map segment_of es

-- an entry stands at this place in the file and begins at this word, and its segment begins at this address or above it
pub record IsLaidAt (at floor word : ℕ) (e : Entry) : Type 0 where
  pub place : e.at ≡ at
  pub segment : IsAbove floor (segment_of e)
  pub begins : e.begin ≡ word

-- the entries follow one another from this place, address and word on
abbrev pub AreLaidFrom : ℕ → ℕ → ℕ → List Entry → Type 0
AreLaidFrom at floor word [] = Unit {0}
AreLaidFrom at floor word (e ∷ rest) = IsLaidAt at floor word e × AreLaidFrom (e.at + e.size) (e.address + e.size) (word + word_count (segment_of e)) rest

pub record AreLaid (es : List Entry) : Type 0 where
  pub laid : AreLaidFrom header_bytes 0 0 es
  pub few : length es ≤ most_segments

-- what an entry says of the numbers that are read off it
pub record IsNear (e : Entry) : Type 0 where
  pub place : e.at ≤ header_bytes + e.address
  pub words : 8 * e.begin ≤ e.address
  pub whole : e.size % 8 ≡ 0
  pub some : bridge_bytes ≤ e.size
  pub low : e.address + e.size ≤ greatest_end

-- the word that has an address in the segment of an entry
abbrev pub word_within : Entry → ℕ → Option ℕ
word_within e address = if has_address (segment_of e) address then Some (e.begin + (address - e.address) / 8) else None

-- an entry of no bytes
abbrev pub blank : Entry
blank = record { at = 0; size = 0; address = 0; begin = 0 }

-- an entry; where there is none, the blank one
abbrev pub entry_at : List Entry → ℕ → Entry
entry_at es i = slice_index_or es i blank

-- the last entry of those that are at most this by a number of theirs
pub record IsLastUpTo (number : Entry → ℕ) (es : List Entry) (most i : ℕ) : Type 0 where
  pub within : i < length es
  pub low : number (entry_at es i) ≤ most
  pub high : (k : ℕ) → i < k → k < length es → most < number (entry_at es k)
