-- The roots of a heap, as a marker visits them.
use Rattle.std.specs.Prelude.{ℕ, ◌≡◌, ◌+◌, ◌*◌, List, slice_index, length, Some, true, false}
use Rattle.std.specs.FinMap.{get}
use Rattle.spur_graph.specs.declared.answer.Value.TheVariants.{Ref}
use Rattle.spur_graph.specs.Graph.{Handle}
use Rattle.spur_graph.specs.Ordinary.{page_entries}
use Rattle.spur_graph.specs.Heaps.{View, heap_value, is_marked, waiting_in}
use Rattle.spur_heap.specs.Entering.{HasPage}
use Rattle.spur_heap.specs.MarkBits.{marks}
use Rattle.spur_heap.specs.Views.{IsOrdinary, class_word}
use Rattle.marker.specs.Visits.{Among}

-- the word names it
abbrev pub NamedByWord : View → ℕ → ℕ → Type 0
NamedByWord v word t = heap_value v word ≡ Ref t

-- one of the words does
abbrev pub NamedIn : View → List ℕ → ℕ → Type 0
NamedIn v words t = Among (λ i. NamedByWord v (slice_index words i)) (length words) t

-- the word is that of a handle
abbrev pub IsHeld : View → ℕ → Type 0
IsHeld v word = (handle : Handle) × (get v.handles handle ≡ Some word)

-- a handle names it
abbrev pub NamedByHandle : View → ℕ → Type 0
NamedByHandle v t = (word : ℕ) × IsHeld v word × NamedByWord v word t

-- it is named, and is marked in the other heap
abbrev pub MarkedOf : (ℕ → Type 0) → View → ℕ → Type 0
MarkedOf named v t = named t × (marks v t ≡ true)

-- the word leads to an object that is not marked
pub record LeadsToUnmarked (v : View) (word : ℕ) : Type 0 where
  pub start : ℕ
  pub value : NamedByWord v word start
  pub ordinary : IsOrdinary v start
  pub off : is_marked v.words start ≡ false

-- it is the mourner of this number
abbrev pub NamedByMourner : View → ℕ → ℕ → Type 0
NamedByMourner v i t = NamedByWord v (8 * slice_index (waiting_in v.mourners) i) t

-- it is the class of the index that stands so far behind the first index of a page, if there is the page
pub record NamedByEntry (v : View) (first i t : ℕ) : Type 0 where
  pub word : ℕ
  pub page : HasPage v first
  pub class : class_word v (first + i) word
  pub value : NamedByWord v word t

-- it is the class of an index of this page
abbrev pub NamedByPage : View → ℕ → ℕ → Type 0
NamedByPage v page t = Among (NamedByEntry v (page_entries * page)) page_entries t
