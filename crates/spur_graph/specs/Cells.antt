-- What stands at each start of some words, whatever their references look like: in a heap a reference is 8 times a start, in a file it is an address.
use Rattle.std.specs.Prelude.{ℕ, suc, zero, ◌+◌, ◌-◌, ◌*◌, ◌/◌, ◌%◌, List, [], ◌∷◌, map, take, drop, length, slice_index, Bool, true, false, not, if◌then◌else◌, ◌&&◌, ◌||◌, nat_eq, nat_lt, Option}
use Rattle.std.specs.Option.{unwrap_or, option_map}
use Rattle.std.specs.List.{range_with_len}
use Rattle.object_header.specs.Field.{field_of}
use Rattle.object_header.specs.Fields.{Fields, fields_of}
use Rattle.object_header.specs.Formats.{unit_bytes_of, unused_of, is_method, pointer_slots_of}
use Rattle.object_header.specs.Head.{is_refused_format, literals_of, whole_units, has_literals}
use Rattle.object_header.specs.declared.header.TheConstants.{FREE_CLASS, BRIDGE_CLASS, FORWARDER_CLASS}
use Rattle.object_header.specs.Chunks.{Chunk, slots_of}
use Rattle.spur_graph.specs.Chains.{follow}

-- an object as its words have it: all slots are words, no reference is followed and no unit is cut out. Mark, grey and remembered bits are no
-- part of it, so that writing them changes no object
pub record Body : Type 0 where
  pub class : ℕ
  pub hash : ℕ
  pub format : ℕ
  pub pinned : ℕ
  pub readonly : ℕ
  pub words : List ℕ

-- how many of the slots are pointers
unfoldable pub pointer_count : Body → ℕ
pointer_count b = pointer_slots_of b.format (length b.words) (literals_of (slice_index b.words 0))

-- the words of the pointer slots
abbrev pub pointers : Body → List ℕ
pointers b = take (pointer_count b) b.words

-- unit `i` of some words, from the low bits up, where a unit has so many bytes
abbrev pub unit_at : ℕ → List ℕ → ℕ → ℕ
unit_at bytes words i = field_of (8 * (i * bytes % 8)) (8 * bytes) (slice_index words (i * bytes / 8))

-- how many units there are behind the pointer slots
unfoldable pub unit_count : Body → ℕ
unit_count b = whole_units b.format (length b.words) (pointer_count b) - unused_of b.format

-- the units
abbrev pub units : Body → List ℕ
units b = map (unit_at (unit_bytes_of b.format) (drop (pointer_count b) b.words)) (range_with_len 0 (unit_count b))

-- what is asked of the words of an object besides its size: a known format, room for the unused units, and in a method the number of its literals
unfoldable pub is_formed : Body → Bool
is_formed b =
    not (nat_eq b.class BRIDGE_CLASS) && not (is_refused_format b.format)
    && (not (is_method b.format) || has_literals (length b.words) (slice_index b.words 0))
    && not (nat_lt (whole_units b.format (length b.words) (pointer_count b)) (unused_of b.format))

-- what stands at a start: nothing or a free chunk, a forwarder to a start, or an object
pub data Cell : Type 0 where
  Empty : Cell
  Moved : ℕ → Cell
  There : Body → Cell

abbrev pub is_start : Cell → Bool
is_start Empty = false
is_start (Moved t) = true
is_start (There b) = true

abbrev pub is_moved : Cell → Bool
is_moved Empty = false
is_moved (Moved t) = true
is_moved (There b) = false

abbrev pub is_there : Cell → Bool
is_there Empty = false
is_there (Moved t) = false
is_there (There b) = true

abbrev pub target_of : Cell → ℕ
target_of Empty = 0
target_of (Moved t) = t
target_of (There b) = 0

-- an object of nothing
abbrev pub no_body : Body
no_body = record { class = 0; hash = 0; format = 0; pinned = 0; readonly = 0; words = [] }

abbrev pub body_of : Cell → Body
body_of Empty = no_body
body_of (Moved t) = no_body
body_of (There b) = b

-- the object that a header with these fields and these slots are
abbrev pub body_from : Fields → List ℕ → Body
body_from f words = record { class = f.class; hash = f.hash; format = f.format; pinned = f.pinned; readonly = f.readonly; words = words }

-- what a header with these fields, the start that the word behind it names, and these slots are
abbrev pub cell_from : Fields → ℕ → List ℕ → Cell
cell_from f target words = if nat_eq f.class FREE_CLASS then Empty else if nat_eq f.class FORWARDER_CLASS then Moved target else There (body_from f words)

-- the start that a word names; a word that names none names a place behind all words
abbrev pub start_named : (ℕ → Option ℕ) → List ℕ → ℕ → ℕ
start_named to words word = unwrap_or (to word) (length words)

-- what stands in a chunk
unfoldable pub read_cell : (ℕ → Option ℕ) → List ℕ → Chunk → Cell
read_cell to words c = cell_from (fields_of (slice_index words c.start)) (start_named to words (slice_index words (c.start + 1))) (slots_of words c)

-- what stands at a start of a row of chunks
unfoldable pub cell_in : (ℕ → Option ℕ) → List ℕ → List Chunk → ℕ → Cell
cell_in to words [] s = Empty
cell_in to words (c ∷ cs) s = if nat_eq c.start s then read_cell to words c else cell_in to words cs s

-- the words as a store: their number, the starts of their chunks in order, what stands at each, and the word that a reference names
pub record Store : Type 0 where
  pub names : ℕ
  pub starts : List ℕ
  pub cell : ℕ → Cell
  pub to : ℕ → Option ℕ

abbrev pub store_in : (ℕ → Option ℕ) → List ℕ → List Chunk → Store
store_in to words cs = record { names = length words; starts = map (λ (c : Chunk). c.start) cs; cell = cell_in to words cs; to = to }

-- the start of chunk `k`
abbrev pub first : Store → ℕ → ℕ
first h k = slice_index h.starts k

-- where a start leads: along its forwarders, as many steps as there are words
unfoldable pub final : Store → ℕ → ℕ
final h s = follow (λ t. is_moved (h.cell t)) (λ t. target_of (h.cell t)) h.names s

-- where a word leads, if it names a start
abbrev pub lead : Store → ℕ → Option ℕ
lead h word = option_map (final h) (h.to word)

-- one of `f 0` to `f (n - 1)` holds
unfoldable pub any_below : (ℕ → Bool) → ℕ → Bool
any_below f zero = false
any_below f (suc n) = f n || any_below f n
