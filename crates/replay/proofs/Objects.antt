-- What commands on the objects of handles do, by what the calls of the read barrier tell of the heap.
use Rattle.std.proofs.Common.{◌≡◌, inl, ℕ, refl, ap, ◌∙◌, Some}
use Rattle.std.specs.Prelude.{Bool, length, slice_index, slice_index_or, slice_set, Result, IfOk}
use Rattle.spur_graph.specs.declared.answer.Value.{Value}
use Rattle.spur_graph.specs.declared.answer.Value.TheVariants.{Ref}
use Rattle.spur_graph.specs.declared.answer.Shown.{Shown}
use Rattle.spur_graph.specs.declared.answer.Answer.{Answer}
use Rattle.spur_graph.specs.declared.answer.Answer.TheVariants as answers
use Rattle.spur_graph.specs.declared.answer.Refusal.{Refusal}
use Rattle.spur_graph.specs.Bytes.{Text}
use Rattle.spur_graph.specs.Value.{name_of, same_value}
use Rattle.spur_graph.specs.Node.{Node}
use Rattle.spur_graph.specs.Graph.{node_at, with_node, held, bind}
use Rattle.spur_graph.specs.Form.{Kind, Class, Size, Same, Fetch, Store, Unit, SetUnit}
use Rattle.spur_graph.specs.Classes.{class_value}
use Rattle.spur_graph.specs.Shows.{shown}
use Rattle.spur_graph.specs.State.{with_graph}
use Rattle.spur_graph.specs.Heaps.{View, heap_graph, heap_room, heap_value}
use Rattle.replay.specs.Sessions.{graph_of, room_of, value_in, over}
use Rattle.replay.specs.Commands.{ObeysExactly, Becomes}
use Rattle.replay.proofs.Doing.{state_moved, binds}

-- ---- by the values of handles

module _ (old new : View) (k : ℕ) (o : Text) (x : Value) (is : held (graph_of old) k o ≡ Some x) where
  class_does : (h : Text) (w : Value) (result : Result Answer Refusal) → w ≡ class_value (graph_of old) x → IfOk result (λ answer. (answer ≡ answers.Done) × Becomes old new (bind (graph_of old) k h w))
      → IfOk result (λ answer. ObeysExactly old k (Class h o) answer new)
  class_does h w result class did = binds old new k h w (class_value (graph_of old) x) (Class h o) result (λ s. rw (is) refl) class did

  fetch_does : (h : Text) (i : ℕ) (w : Value) → w ≡ slice_index_or (node_at (graph_of old) x).pointers i (Ref (graph_of old).nil) → Becomes old new (bind (graph_of old) k h w)
      → ObeysExactly old k (Fetch h o i) answers.Done new
  fetch_does h i w slot becomes = λ s. inl (rw (is) (refl, state_moved old new s (bind (graph_of old) k h w) becomes ∙ ap (λ y. with_graph (over old s) (bind (graph_of old) k h y)) slot))

  store_does : (i : ℕ) (v : Text) (w : Value) → held (graph_of old) k v ≡ Some w
      → Becomes old new (with_node (graph_of old) (name_of x) (let n : Node = node_at (graph_of old) x in record n { pointers = slice_set n.pointers i w })) → ObeysExactly old k (Store o i v) answers.Done new
  store_does i v w value becomes = λ s.
      inl (rw (is, value) (refl, state_moved old new s (with_node (graph_of old) (name_of x) (let n : Node = node_at (graph_of old) x in record n { pointers = slice_set n.pointers i w })) becomes))

  set_unit_does : (i u : ℕ) → Becomes old new (with_node (graph_of old) (name_of x) (let n : Node = node_at (graph_of old) x in record n { units = slice_set n.units i u })) → ObeysExactly old k (SetUnit o i u) answers.Done new
  set_unit_does i u becomes = λ s.
      inl (rw (is) (refl, state_moved old new s (with_node (graph_of old) (name_of x) (let n : Node = node_at (graph_of old) x in record n { units = slice_set n.units i u })) becomes))

module _ (v : View) (k : ℕ) (o : Text) (x : Value) (is : held (graph_of v) k o ≡ Some x) where
  unit_does : (i u : ℕ) → u ≡ slice_index (node_at (graph_of v) x).units i → ObeysExactly v k (Unit o i) (answers.Number u) v
  unit_does i u unit = λ s. inl (rw (is) (ap answers.Number unit, refl))

  kind_does : (t : Shown) → t ≡ shown (graph_of v) x → ObeysExactly v k (Kind o) (answers.Shown t) v
  kind_does t told = λ s. inl (rw (is) (ap (λ y. answers.Shown y) told, refl))

  size_does : (pointers units : ℕ) → pointers ≡ length (node_at (graph_of v) x).pointers → units ≡ length (node_at (graph_of v) x).units → ObeysExactly v k (Size o) (answers.Size pointers units) v
  size_does pointers units p u = λ s. inl (rw (is) (λ i. answers.Size (p i) (u i), refl))

  pub same_obeys : (b : Text) (y : Value) (t : Bool) → held (graph_of v) k b ≡ Some y → t ≡ same_value x y → ObeysExactly v k (Same o b) (answers.Truth t) v
  same_obeys b y t other same = λ s. inl (rw (is, other) (ap (λ u. answers.Truth u) same, refl))

-- ---- the same over the heap's own graph

module _ (old new : View) (k : ℕ) (o : Text) (word : ℕ) (is : held (graph_of old) k o ≡ Some (value_in old word)) where
  pub class_obeys : (h : Text) (class : ℕ) (result : Result Answer Refusal) → heap_value old class ≡ class_value (heap_graph old) (heap_value old word)
      → IfOk result (λ answer. (answer ≡ answers.Done) × Becomes old new (bind (graph_of old) k h (value_in old class))) → IfOk result (λ answer. ObeysExactly old k (Class h o) answer new)
  unfolding graph_of
  class_obeys h class result told did = class_does old new k o (value_in old word) is h (value_in old class) result told did

  pub fetch_obeys : (h : Text) (i slot : ℕ) → heap_value old slot ≡ slice_index_or (node_at (heap_graph old) (heap_value old word)).pointers i (Ref (heap_graph old).nil) → Becomes old new (bind (graph_of old) k h (value_in old slot))
      → ObeysExactly old k (Fetch h o i) answers.Done new
  unfolding graph_of
  fetch_obeys h i slot told becomes = fetch_does old new k o (value_in old word) is h i (value_in old slot) told becomes

  pub store_obeys : (i : ℕ) (v : Text) (value : ℕ) → held (graph_of old) k v ≡ Some (value_in old value)
      → heap_graph new ≡ with_node (heap_graph old) (name_of (heap_value old word)) (let n : Node = node_at (heap_graph old) (heap_value old word) in record n { pointers = slice_set n.pointers i (heap_value old value) })
      → heap_room new ≡ heap_room old → ObeysExactly old k (Store o i v) answers.Done new
  unfolding graph_of room_of
  store_obeys i v value other graph room = store_does old new k o (value_in old word) is i v (value_in old value) other (graph, room)

  pub set_unit_obeys : (i u : ℕ) → heap_graph new ≡ with_node (heap_graph old) (name_of (heap_value old word)) (let n : Node = node_at (heap_graph old) (heap_value old word) in record n { units = slice_set n.units i u })
      → heap_room new ≡ heap_room old → ObeysExactly old k (SetUnit o i u) answers.Done new
  unfolding graph_of room_of
  set_unit_obeys i u graph room = set_unit_does old new k o (value_in old word) is i u (graph, room)

module _ (v : View) (k : ℕ) (o : Text) (word : ℕ) (is : held (graph_of v) k o ≡ Some (value_in v word)) where
  pub unit_obeys : (i u : ℕ) → u ≡ slice_index (node_at (heap_graph v) (heap_value v word)).units i → ObeysExactly v k (Unit o i) (answers.Number u) v
  unfolding graph_of
  unit_obeys i u unit = unit_does v k o (value_in v word) is i u unit

  pub kind_obeys : (t : Shown) → t ≡ shown (heap_graph v) (heap_value v word) → ObeysExactly v k (Kind o) (answers.Shown t) v
  unfolding graph_of
  kind_obeys t told = kind_does v k o (value_in v word) is t told

  pub size_obeys : (pointers units : ℕ) → pointers ≡ length (node_at (heap_graph v) (heap_value v word)).pointers → units ≡ length (node_at (heap_graph v) (heap_value v word)).units → ObeysExactly v k (Size o) (answers.Size pointers units) v
  unfolding graph_of
  size_obeys pointers units p u = size_does v k o (value_in v word) is pointers units p u
