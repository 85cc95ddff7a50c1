-- What the words tell of internal and ordinary objects: the pages that the hidden roots name, and a count of objects.
use Rattle.std.specs.Prelude.{ℕ, ◌+◌, ◌/◌, List, [], ◌∷◌, slice_index, Bool, if◌then◌else◌, not, ◌&&◌, ◌||◌, nat_eq}
use Rattle.object_header.specs.Head.{class_of}
use Rattle.object_header.specs.Chunks.{Chunk}
use Rattle.object_header.specs.declared.header.TheConstants.{FREE_CLASS, FORWARDER_CLASS}
use Rattle.heap_walk.specs.Starts.{has_start}
use Rattle.heap_walk.specs.declared.starts.StartMap.{StartMap}

-- the word names this start, and is not that of nil
abbrev pub names_page : ℕ → ℕ → ℕ → Bool
names_page nil s word = not (nat_eq word nil) && nat_eq (word / 8) s

-- slot `i` of the hidden roots at `roots` does
abbrev pub root_names : List ℕ → ℕ → ℕ → ℕ → ℕ → Bool
root_names words roots nil s i = names_page nil s (slice_index words (roots + 1 + i))

-- a header that is neither that of a free chunk nor that of a forwarder
abbrev pub is_object_header : ℕ → Bool
is_object_header header = not (nat_eq (class_of header) FREE_CLASS) && not (nat_eq (class_of header) FORWARDER_CLASS)

-- 1 for an object whose start the map has not, else 0
abbrev pub one_new : StartMap → ℕ → ℕ → ℕ
one_new map start header = if is_object_header header && not (has_start map start) then 1 else 0

-- the objects among these chunks whose starts the map has not
unfoldable pub count_new : List ℕ → StartMap → List Chunk → ℕ
count_new words map [] = 0
count_new words map (c ∷ cs) = one_new map c.start (slice_index words c.start) + count_new words map cs

-- the map has what it had, and the start with this header, unless that is free
abbrev pub has_entered : StartMap → ℕ → ℕ → ℕ → Bool
has_entered map start header s = has_start map s || (nat_eq s start && not (nat_eq (class_of header) FREE_CLASS))
