-- The header of an object that takes the contents of another.
use Rattle.std.specs.Prelude.{ℕ, ◌≡◌, slice_index}
use Rattle.object_header.specs.Fields.{fields_of}
use Rattle.spur_graph.specs.Heaps.{View, HasNoUnusedBits}
use Rattle.spur_heap.specs.Flags.{flag_bit}
use Rattle.spur_heap.specs.Swaps.{remembers}

-- a header for the place `to`: class index, format and flags of what starts at `from`, the slot count of what starts at `to`, and this hash. It has no
-- mark and no grey bit, and the remembered bit where `to` had it or has to have it then
pub record TakesHeader (v : View) (from to hash word : ℕ) : Type 0 where
  pub fields : fields_of word
      ≡ record (fields_of (slice_index v.words from)) { count = (fields_of (slice_index v.words to)).count; marked = 0; hash = hash; grey = 0; remembered = flag_bit (remembers v to from) }
  pub unused : HasNoUnusedBits (slice_index v.words from) → HasNoUnusedBits word
