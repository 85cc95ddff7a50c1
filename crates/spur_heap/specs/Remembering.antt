-- The remembered bit: an object of old space that names new space has it, and it is set before the word that does is written.
use Rattle.std.specs.Prelude.{ℕ, ◌≡◌, List, [], ◌∷◌, ◌++◌, length, slice_index, slice_set, Bool, true, false, not, if◌then◌else◌, ◌+◌, ◌&&◌, nat_lt}
use Rattle.object_header.specs.Field.{with_field}
use Rattle.remembered_set.specs.Starts.{Table, AreDistinct}
use Rattle.spur_graph.specs.Heaps.{View, is_over, is_remembered, names_over, store_of}
use Rattle.spur_heap.specs.declared.heap.HeapParts.{HeapParts}
use Rattle.spur_heap.specs.Parts.{view_of}
use Rattle.spur_heap.specs.Tables.{has, HasPlaces}
use Rattle.spur_heap.specs.Words.{AreSound, starts_at}

-- the header word with the remembered bit
abbrev pub with_remembered : ℕ → ℕ
with_remembered word = with_field 29 1 word 1

-- what starts at `s` has to be remembered once this word stands in it
abbrev pub must_remember : View → ℕ → ℕ → Bool
must_remember v s word = nat_lt s v.spaces.old_end && is_over v.spaces.old_end word

-- one word of a view is written
abbrev pub after : View → ℕ → ℕ → View
after v j word = record v { words = slice_set v.words j word }

-- the same heap, and the header at `s` has the remembered bit
abbrev pub remembered_at : View → ℕ → View
remembered_at v s = after v s (with_remembered (slice_index v.words s))

-- the same where what starts at `s` has to be remembered for this word
abbrev pub remembered_for : View → ℕ → ℕ → View
remembered_for v s word = if must_remember v s word then remembered_at v s else v

-- slot `i` of the object that starts at `s` has the word, and the object is remembered where it has to be
abbrev pub stored : View → ℕ → ℕ → ℕ → View
stored v s i word = after (remembered_for v s word) (s + 1 + i) word

-- ---- the table

-- what starts at `s` has to be remembered once it has the contents of what starts at `t`
abbrev pub must_with : View → ℕ → ℕ → Bool
must_with v s t = nat_lt s v.spaces.old_end && names_over v.spaces.old_end ((store_of v).cell t)

-- the table with a start more, behind the others, where it is on
abbrev pub noted_by : Bool → ℕ → Table → Table
noted_by on s table = if on then record table { starts = table.starts ++ s ∷ [] } else table

-- the table once what starts at `s` is remembered, where it has to be: it comes in unless its header has the bit
abbrev pub noted : View → Bool → ℕ → Table → Table
noted v on s table = noted_by (on && not (is_remembered v.words s)) s table

-- a start that the table of remembered ones has a place for: it is not there where its header has no bit
pub record CanNote (p : HeapParts) (s : ℕ) : Type 0 where
  pub sound : AreSound (view_of p)
  pub there : starts_at (view_of p) s ≡ true
  pub once : AreDistinct p.remembered.starts
  pub starts : (t : ℕ) → has p.remembered.starts t ≡ true → starts_at (view_of p) t ≡ true
  pub places : HasPlaces (length p.region) p.remembered.capacity
  pub absent : is_remembered p.region s ≡ false → has p.remembered.starts s ≡ false
