-- What holds of the words of a heap, also while something else of it is not whole.
use Rattle.std.specs.Prelude.{ℕ, ◌≤◌, ◌+◌, ◌*◌, ◌/◌, ◌%◌, length, slice_index, Bool}
use Rattle.object_header.specs.Field.{with_field}
use Rattle.object_header.specs.Formats.{unit_bytes_of}
use Rattle.spur_graph.specs.Cells.{Body, is_start, is_there, pointer_count}
use Rattle.spur_graph.specs.Spaces.{AreSpaces, AreRows}
use Rattle.spur_graph.specs.Ordinary.{body_at, is_good_word}
use Rattle.spur_graph.specs.Heaps.{View, store_of, IsSound}
use Rattle.spur_graph.specs.ImageCauses.{most_words}

-- each space is cut into chunks without a rest, and what stands in them is sound
pub record AreSound (v : View) : Type 0 where
  pub spaces : AreSpaces (length v.words) v.limits v.spaces
  pub rows : AreRows v.words v.spaces
  pub sound : IsSound (store_of v)
  pub few : length v.words ≤ most_words

-- an object or a forwarder starts there
abbrev pub starts_at : View → ℕ → Bool
starts_at v s = is_start ((store_of v).cell s)

-- a word that a slot may have
abbrev pub is_good : View → ℕ → Bool
is_good v word = is_good_word (store_of v) word

-- an object starts there
abbrev pub is_object : View → ℕ → Bool
is_object v s = is_there ((store_of v).cell s)

-- the object that starts there
abbrev pub body_in : View → ℕ → Body
body_in v s = body_at (store_of v) s

-- the bytes of a unit of the object that starts there
abbrev pub unit_bytes_in : View → ℕ → ℕ
unit_bytes_in v s = unit_bytes_of (body_in v s).format

-- the word that holds unit `i` of the object, behind its pointers
abbrev pub unit_place : View → ℕ → ℕ → ℕ
unit_place v s i = s + 1 + pointer_count (body_in v s) + i * unit_bytes_in v s / 8

-- this word, with `value` in the bits of the unit
abbrev pub unit_word : View → ℕ → ℕ → ℕ → ℕ
unit_word v s i value = with_field (8 * (i * unit_bytes_in v s % 8)) (8 * unit_bytes_in v s) (slice_index v.words (unit_place v s i)) value
