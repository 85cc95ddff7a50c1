-- What the compaction of a heap does to its words.
use Rattle.std.specs.Prelude.{ℕ, ◌≡◌, ◌≢◌, ◌+◌, ◌-◌, ◌/◌, ◌%◌, ◌<◌, ◌≤◌, ◌⊎◌, ◌||◌, Bool, true, false, List, length, slice_index, nat_eq}
use Rattle.std.specs.List.{Contains}
use Rattle.object_header.specs.Formats.{pointer_slots_of}
use Rattle.object_header.specs.Head.{class_of, format_of, literals_of}
use Rattle.object_header.specs.Chunks.{Chunk, leads, InOrder, slots_at}
use Rattle.spur_graph.specs.Cells.{Store, first, is_there}
use Rattle.spur_graph.specs.Heaps.{IsSound, heap_store}
use Rattle.heap_cells.specs.Rows.{starts_of}
use Rattle.heap_laws.specs.Instances.{readdressed_by}

-- the number of pointer slots of an object, from its head words
unfoldable pub pointers_at : List ℕ → ℕ → ℕ
pointers_at words s = pointer_slots_of (format_of (slice_index words s)) (slots_at words s) (literals_of (slice_index words (s + 1)))

-- the object at `t` stands at `s`, with its references under the new places
pub record IsMovedBy (p : ℕ → ℕ) (words words' : List ℕ) (t s : ℕ) : Type 0 where
  pub header : slice_index words' s ≡ slice_index words t
  pub lead : leads (slice_index words t) ≡ true → slice_index words' (s - 1) ≡ slice_index words (t - 1)
  pub slots : slots_at words' s ≡ slots_at words t
  pub count : pointers_at words' s ≡ pointers_at words t
  pub pointers : (i : ℕ) → i < pointers_at words t → slice_index words' (s + 1 + i) ≡ readdressed_by p (slice_index words (t + 1 + i))
  pub others : (i : ℕ) → pointers_at words t ≤ i → i < slots_at words t → slice_index words' (s + 1 + i) ≡ slice_index words (t + 1 + i)

-- every object stands where `p` says, and nothing else stands there
pub record MovedBy (p : ℕ → ℕ) (has has' : ℕ → Bool) (words words' : List ℕ) : Type 0 where
  pub same_words : length words' ≡ length words
  pub there : (t : ℕ) → has t ≡ true → has' (p t) ≡ true
  pub back : (s : ℕ) → has' s ≡ true → (t : ℕ) × (has t ≡ true) × (p t ≡ s)
  pub once : (s t : ℕ) → has s ≡ true → has t ≡ true → p s ≡ p t → s ≡ t
  pub objects : (t : ℕ) → has t ≡ true → IsMovedBy p words words' t (p t)

-- what is there, and the free lists object, whose start is in no start map while a compaction runs
abbrev pub with_lists : (ℕ → Bool) → Store → ℕ → Bool
with_lists has h s = has s || nat_eq s (first h 3)

-- a heap of words, cut into `cs`, was compacted, and is cut into `cs'`: each chunk that is no object is free
pub record IsCompacted (p : ℕ → ℕ) (has has' : ℕ → Bool) (words words' : List ℕ) (cs cs' : List Chunk) : Type 0 where
  pub row : InOrder words 0 (length words) cs
  pub row_new : InOrder words' 0 (length words') cs'
  pub sound : IsSound (heap_store words cs)
  pub moved : MovedBy p has has' words words'
  pub objects : (s : ℕ) → has s ≡ true → is_there ((heap_store words cs).cell s) ≡ true
  pub refs : (s i : ℕ) → has s ≡ true → i < pointers_at words s → slice_index words (s + 1 + i) % 8 ≡ 0 → with_lists has (heap_store words cs) (slice_index words (s + 1 + i) / 8) ≡ true
  pub starts : (s : ℕ) → has' s ≡ true → Contains (starts_of cs') s
  pub kinds : (c : Chunk) → Contains cs' c → ((has' c.start ≡ true) ⊎ (c.start ≡ first (heap_store words cs) 3)) ⊎ (class_of (slice_index words' c.start) ≡ 0)
  pub five : 5 ≤ length (starts_of cs')
  pub firsts : (j : ℕ) → j < 5 → (with_lists has (heap_store words cs) (first (heap_store words cs) j) ≡ true) × (slice_index (starts_of cs') j ≡ p (first (heap_store words cs) j))
  pub lists : first (heap_store words cs) 3 ≡ p (first (heap_store words cs) 3)
  pub apart : (has (first (heap_store words cs) 3) ≡ false) × (has' (first (heap_store words cs) 3) ≡ false)
  pub roots : first (heap_store words cs) 4 ≢ first (heap_store words cs) 3
  pub header : slice_index words' (first (heap_store words cs) 3) ≡ slice_index words (first (heap_store words cs) 3)
  pub slots : slots_at words' (first (heap_store words cs) 3) ≡ slots_at words (first (heap_store words cs) 3)
