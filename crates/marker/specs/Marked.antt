-- What a marking does to a heap.
use Rattle.std.specs.Prelude.{ℕ, ◌≡◌, ◌⊎◌, Option, Some, None, true}
use Rattle.spur_graph.specs.declared.answer.Value.{Value}
use Rattle.spur_graph.specs.declared.answer.Value.TheVariants.{Int, Char, Float, Ref}
use Rattle.spur_graph.specs.Live.{IsDerived, none}
use Rattle.spur_graph.specs.Ordinary.{is_internal}
use Rattle.spur_graph.specs.Heaps.{View, heap_graph, heap_value, is_marked}
use Rattle.spur_heap.specs.MarkBits.{marks}
use Rattle.spur_heap.specs.Views.{store}
use Rattle.marker.specs.Marks.{silent_of}
use Rattle.marker.specs.Visits.{AreBare, MarksOnly}

-- the name that a value has, if it has one
abbrev pub named_by : Value → Option ℕ
named_by (Int n) = None
named_by (Char c) = None
named_by (Float w) = None
named_by (Ref a) = Some a

-- the excepted name: an immediate excepts nothing
abbrev pub excepted : View → Option ℕ → Option ℕ
excepted v None = None
excepted v (Some word) = named_by (heap_value v word)

-- it is live where the values of the excepted name never count, or is the excepted name
abbrev pub IsFound : View → Option ℕ → ℕ → Type 0
IsFound v except t = IsDerived (heap_graph v) none (silent_of (excepted v except)) t ⊎ (silent_of (excepted v except) t ≡ true)

-- each internal object is marked
abbrev pub AreInternalMarked : View → Type 0
AreInternalMarked v = (s : ℕ) → is_internal (store v) s ≡ true → is_marked v.words s ≡ true

-- one object more is marked, if there is one
pub record MarksOne (name : Option ℕ) (old new : View) : Type 0 where
  pub keeps : MarksOnly old new
  pub stack : new.stack ≡ old.stack
  pub more : (t : ℕ) → marks old t ≡ true → marks new t ≡ true
  pub here : (t : ℕ) → silent_of name t ≡ true → marks new t ≡ true
  pub only : (t : ℕ) → marks new t ≡ true → (marks old t ≡ true) ⊎ (silent_of name t ≡ true)
  pub bare : AreBare old → AreBare new
