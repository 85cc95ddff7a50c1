-- Ephemerons that wait until their keys are marked. They stand on the mark stack, before whatever is to be passed.
use Rattle.std.specs.Prelude.{ℕ, ◌≡◌, ◌<◌, ◌⊎◌, ◌-◌, List, Bool, true, false, ◌&&◌, Some, length, take, slice_index}
use Rattle.std.specs.List.{Contains}
use Rattle.std.specs.FinMap.{get}
use Rattle.spur_graph.specs.declared.answer.Value.{Value}
use Rattle.spur_graph.specs.declared.answer.Value.TheVariants.{Ref}
use Rattle.spur_graph.specs.Node.{Node}
use Rattle.spur_graph.specs.Graph.{Graph}
use Rattle.spur_graph.specs.Live.{is_keyed, strong_count}
use Rattle.spur_graph.specs.Rounds.{names_dead}
use Rattle.spur_graph.specs.Heaps.{View}
use Rattle.spur_heap.specs.MarkBits.{marks}
use Rattle.spur_heap.specs.Views.{node_in}
use Rattle.weak_ephemeron.specs.Steps.{slot_value}
use Rattle.marker.specs.Marks.{Marking}

-- the values of a node that count where it does not wait: of an ephemeron all, else the strong ones
abbrev pub counted_values : Graph → Node → List Value
counted_values g n = take (strong_count g n) n.pointers

-- a marking, in which each ephemeron with a key stands on the stack too, or its values are marked or never count
pub record Progress (g : Graph) (silent m : ℕ → Bool) (stack : List ℕ) : Type 0 where
  pub marking : Marking g silent m stack
  pub keyed : (s a : ℕ) (n : Node) → m s ≡ true → silent s ≡ false → get g.nodes s ≡ Some n → is_keyed n ≡ true → Contains n.pointers (Ref a) → Contains stack s ⊎ (m a ≡ true)

-- an ephemeron whose key is an object that is not marked
abbrev pub waits : View → ℕ → Bool
waits v s = is_keyed (node_in v s) && names_dead (marks v) (slot_value v s 0)

-- the last start of the stack stands behind those that are kept, and does not wait
pub record EndsReady (kept : ℕ) (v : View) : Type 0 where
  pub more : kept < length v.stack
  pub ready : waits v (slice_index v.stack (length v.stack - 1)) ≡ false
