-- The single steps of a collection: an ephemeron fires, and the weak slots of an object that name dead objects become nil.
use Rattle.std.specs.Prelude.{ℕ, ◌≡◌, ◌==◌, Bool, if◌then◌else◌, slice_index_or, slice_set}
use Rattle.spur_graph.specs.declared.answer.Value.{Value}
use Rattle.spur_graph.specs.declared.answer.Value.TheVariants.{Ref}
use Rattle.spur_graph.specs.Node.{Node}
use Rattle.spur_graph.specs.Graph.{Graph}
use Rattle.spur_graph.specs.Rounds.{names_dead, without_dead}
use Rattle.spur_graph.specs.Heaps.{View, heap_graph, heap_value}
use Rattle.spur_heap.specs.Mourning.{added}
use Rattle.spur_heap.specs.MarkBits.{marks}
use Rattle.spur_heap.specs.Views.{node_in}
use Rattle.weak_ephemeron.specs.Stays.{Stays}

-- the object has this node, and every other has its own
abbrev pub HasNodeAt : ℕ → Node → View → View → Type 0
HasNodeAt s n old new = (t : ℕ) → node_in new t ≡ (if t == s then n else node_in old t)

-- an ephemeron has format 1, and is a mourner, of a new group or of the last one
pub record FiresOne (s : ℕ) (first : Bool) (old new : View) : Type 0 where
  pub stays : Stays old new
  pub nodes : HasNodeAt s (record (node_in old s) { format = 1 }) old new
  pub mourners : (heap_graph new).mourners ≡ added (heap_graph old).mourners s first
  pub table : new.mourners ≡ added old.mourners s first

-- the value of a pointer slot of an object
abbrev pub slot_value : View → ℕ → ℕ → Value
slot_value v s i = slice_index_or (node_in v s).pointers i (heap_value v 0)

-- a value is nil where it named a dead name
abbrev pub without_name : Graph → (ℕ → Bool) → Value → Value
without_name g live x = if names_dead live x then Ref g.nil else x

-- slot `i` of an object is nil where it named what is not marked
pub record NilsSlot (s i : ℕ) (old new : View) : Type 0 where
  pub stays : Stays old new
  pub nodes : HasNodeAt s (record (node_in old s) { pointers = slice_set (node_in old s).pointers i (without_name (heap_graph old) (marks old) (slot_value old s i)) }) old new
  pub table : new.mourners ≡ old.mourners

-- the weak values of an object that name what is not marked are nil
pub record NilsOne (s : ℕ) (old new : View) : Type 0 where
  pub stays : Stays old new
  pub nodes : HasNodeAt s (without_dead (heap_graph old) (marks old) (node_in old s)) old new
  pub table : new.mourners ≡ old.mourners
