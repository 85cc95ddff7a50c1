-- Words of two runs change places, and so the contents of two objects.
use Rattle.std.specs.Prelude.{ℕ, ◌≡◌, suc, zero, ◌+◌, ◌-◌, List, slice_index, slice_set, Bool, ◌||◌}
use Rattle.object_header.specs.Field.{with_field}
use Rattle.object_header.specs.Fields.{fields_of}
use Rattle.object_header.specs.Chunks.{leads}
use Rattle.heap_walk.specs.Shapes.{lead_at, words_at}
use Rattle.spur_graph.specs.Heaps.{View, is_remembered}
use Rattle.spur_heap.specs.Flags.{flag_bit}
use Rattle.spur_heap.specs.Remembering.{must_with}

-- the first words of the run from `a` on and of that from `b` on have changed places
unfoldable pub swap_run : List ℕ → ℕ → ℕ → ℕ → List ℕ
swap_run words a b zero = words
swap_run words a b (suc i) = slice_set (slice_set (swap_run words a b i) (a + i) (slice_index (swap_run words a b i) (b + i))) (b + i) (slice_index (swap_run words a b i) (a + i))

-- two objects have as many words, and both or neither have an overflow word
pub record AreAlike (words : List ℕ) (a b : ℕ) : Type 0 where
  pub lead : leads (slice_index words a) ≡ leads (slice_index words b)
  pub size : words_at words a ≡ words_at words b

-- the place `s` is remembered once it has the contents of the object at `t`: it was, or it is in old space and they name new space
abbrev pub remembers : View → ℕ → ℕ → Bool
remembers v s t = is_remembered v.words s || must_with v s t

-- the header that it has then: that of the object, with the hash of the place and its remembered bit
abbrev pub header_for : View → ℕ → ℕ → ℕ
header_for v s t = with_field 29 1 (with_field 32 22 (slice_index v.words t) (fields_of (slice_index v.words s)).hash) (flag_bit (remembers v s t))

-- the words once two objects of as many words have changed contents: all words of the two change places, and each place has a header of its own
abbrev pub exchanged_words : View → ℕ → ℕ → List ℕ
exchanged_words v a b =
    slice_set (slice_set (swap_run v.words (a - lead_at v.words a) (b - lead_at v.words a) (words_at v.words a)) a (header_for v a b)) b (header_for v b a)
