-- Marking on the words of a heap.
use Rattle.std.specs.Prelude.{◌≡◌, Option, false, ◌≤◌, ◌<◌, ◌+◌, ◌/◌, ℕ, List, [], ◌∷◌, Bool, true, if◌then◌else◌, slice_index_or, length}
use Rattle.std.specs.List.{Contains}
use Rattle.spur_graph.specs.declared.answer.Value.TheVariants.{Ref}
use Rattle.spur_graph.specs.Cells.{is_moved, is_there}
use Rattle.spur_graph.specs.Ordinary.{is_ordinary, is_good_word, ordinary_starts}
use Rattle.spur_graph.specs.Heaps.{View, heap_graph, heap_room, heap_value, is_marked}
use Rattle.spur_heap.specs.Views.{IsOrdinary, node_in, store}
use Rattle.spur_heap.specs.MarkBits.{marks}
use Rattle.marker.specs.Marks.{Scanned, silent_of}
use Rattle.marker.specs.Waiting.{Progress, counted_values}

-- how many of these do not pass
abbrev pub left : (ℕ → Bool) → List ℕ → ℕ
left m [] = 0
left m (s ∷ ss) = (if m s then 0 else 1) + left m ss

-- how many are not
abbrev pub unmarked : View → ℕ
unmarked v = left (marks v) (ordinary_starts (store v))

-- mark bits and the mark stack are others, and nothing else: each cell stands as it did
pub record MarksOnly (old new : View) : Type 0 where
  pub store : store new ≡ store old
  pub graph : heap_graph new ≡ heap_graph old
  pub room : heap_room new ≡ heap_room old
  pub rest : new ≡ record old { words = new.words; stack = new.stack }

-- the heap stands for the same graph and room, name by name
pub record Keeps (old new : View) : Type 0 where
  pub graph : heap_graph new ≡ heap_graph old
  pub room : heap_room new ≡ heap_room old
  pub values : (w : ℕ) → heap_value new w ≡ heap_value old w
  pub goods : (w : ℕ) → is_good_word (store new) w ≡ is_good_word (store old) w
  pub ordinary : (s : ℕ) → is_ordinary (store new) s ≡ is_ordinary (store old) s
  pub objects : (s : ℕ) → is_there ((store new).cell s) ≡ is_there ((store old).cell s)
  pub forwarders : (s : ℕ) → is_moved ((store new).cell s) ≡ is_moved ((store old).cell s)
  pub nodes : (s : ℕ) → node_in new s ≡ node_in old s
  pub starts : ordinary_starts (store new) ≡ ordinary_starts (store old)
  pub phase : new.phase ≡ old.phase
  pub long : length new.words ≡ length old.words

-- no forwarder is marked
abbrev pub AreBare : View → Type 0
AreBare v = (s : ℕ) → is_moved ((store v).cell s) ≡ true → is_marked v.words s ≡ false

-- the stack has room for all that is not marked yet
abbrev pub HasRoom : View → Type 0
HasRoom v = unmarked v + length v.stack ≤ length v.words / 2

-- and for one object more
abbrev pub HasRoomForOne : View → Type 0
HasRoomForOne v = unmarked v + length v.stack < length v.words / 2

-- ordinary objects stand on the stack
abbrev pub IsStackOf : View → Type 0
IsStackOf v = (t : ℕ) → Contains v.stack t → IsOrdinary v t

-- names were visited in a heap
pub record Visits (named : ℕ → Type 0) (old new : View) : Type 0 where
  pub keeps : MarksOnly old new
  pub scanned : Scanned named (marks old) (marks new) old.stack new.stack
  pub low : unmarked new + length new.stack ≤ unmarked old + length old.stack
  pub grown : length old.stack ≤ length new.stack
  pub bare : AreBare old → AreBare new
  pub ordinary : IsStackOf old → IsStackOf new

-- one of the first `k` of these predicates holds
abbrev pub Among : (ℕ → ℕ → Type 0) → ℕ → ℕ → Type 0
Among named k t = (i : ℕ) × (i < k) × named i t

-- slot `i` of the object names it
abbrev pub NamedBySlot : View → ℕ → ℕ → ℕ → Type 0
NamedBySlot v s i t = slice_index_or (node_in v s).pointers i (heap_value v 0) ≡ Ref t

-- one of the first `k` slots does
abbrev pub NamesBelow : View → ℕ → ℕ → ℕ → Type 0
NamesBelow v s k t = Among (NamedBySlot v s) k t

-- the object has the name in a slot that counts where it does not wait
abbrev pub NamesCounted : View → ℕ → ℕ → Type 0
NamesCounted v s t = Contains (counted_values (heap_graph v) (node_in v s)) (Ref t)

-- some marking was done: what held of the marks holds again
pub record Works (except : Option ℕ) (old new : View) : Type 0 where
  pub keeps : MarksOnly old new
  pub progress : Progress (heap_graph old) (silent_of except) (marks old) old.stack → Progress (heap_graph old) (silent_of except) (marks new) new.stack
  pub more : (t : ℕ) → marks old t ≡ true → marks new t ≡ true
  pub low : unmarked new + length new.stack ≤ unmarked old + length old.stack
  pub bare : AreBare old → AreBare new
  pub ordinary : IsStackOf old → IsStackOf new
