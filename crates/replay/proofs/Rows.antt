-- The refusals of commands by the values of their handles.
use Rattle.std.proofs.Common.{◌≡◌, refl, ap, ◌∙◌}
use Rattle.std.proofs.Math.Bool.{or-false}
use Rattle.std.specs.Prelude.{ℕ, ◌∷◌, Some, None}
use Rattle.spur_graph.specs.declared.answer.Value.{Value}
use Rattle.spur_graph.specs.declared.answer.Refusal.TheVariants as r
use Rattle.spur_graph.specs.Bytes.{Text}
use Rattle.spur_graph.specs.Value.{is_immediate}
use Rattle.spur_graph.specs.Graph.{held, node_at}
use Rattle.spur_graph.specs.Form.{Fetch, Class, Size, Store, Unit, SetUnit}
use Rattle.spur_graph.specs.State.{State}
use Rattle.spur_graph.specs.Refusals.{first, test, handles}
use Rattle.spur_graph.specs.Refused.{refused}
use Rattle.spur_graph.specs.Heaps.{View, heap_graph, heap_value}
use Rattle.spur_graph.proofs.Refusing.{alone}
use Rattle.read_barrier.specs.Rows.{fetch_row, store_row, unit_row, store_unit_row}
use Rattle.replay.specs.Sessions.{graph_of, over, value_in}

module _ (s : State) (k : ℕ) (o : Text) (x : Value) (is : held s.graph k o ≡ Some x) where
  pub class_refused : (h : Text) → refused s k (Class h o) ≡ handles s.graph k h
  class_refused h = rw (is) (alone (handles s.graph k h))

  size_by : refused s k (Size o) ≡ test (is_immediate x) r.Immediate
  size_by = rw (is, or-false (is_immediate x)) (alone (test (is_immediate x) r.Immediate))

  fetch_by : (h : Text) (i : ℕ) → refused s k (Fetch h o i) ≡ first (handles s.graph k h ∷ fetch_row s.graph x i)
  fetch_by h i = rw (is, or-false (is_immediate x)) refl

  unit_by : (i : ℕ) → refused s k (Unit o i) ≡ first (unit_row s.graph x i)
  unit_by i = rw (is, or-false (is_immediate x)) refl

  set_unit_by : (i u : ℕ) → refused s k (SetUnit o i u) ≡ first (store_unit_row s.graph x i u)
  set_unit_by i u = rw (is, or-false (is_immediate x), or-false (node_at s.graph x).readonly) refl

  store_by : (i : ℕ) (w : Text) (y : Value) → held s.graph k w ≡ Some y → refused s k (Store o i w) ≡ first (store_row s.graph x i)
  store_by i w y other = rw (is, other, or-false (is_immediate x), or-false (node_at s.graph x).readonly) refl

-- the same in each state over a heap, by the rows of the calls
module _ (v : View) (k : ℕ) (o : Text) (word : ℕ) (is : held (graph_of v) k o ≡ Some (value_in v word)) (s : State) where
  pub size_refused : refused (over v s) k (Size o) ≡ test (is_immediate (heap_value v word)) r.Immediate
  size_refused = size_by (over v s) k o (value_in v word) is

  pub fetch_refused : (h : Text) (i : ℕ) → handles (graph_of v) k h ≡ None → refused (over v s) k (Fetch h o i) ≡ first (fetch_row (heap_graph v) (heap_value v word) i)
  unfolding graph_of
  fetch_refused h i room = fetch_by (over v s) k o (value_in v word) is h i ∙ ap (λ p. first (p ∷ fetch_row (heap_graph v) (heap_value v word) i)) room

  pub unit_refused : (i : ℕ) → refused (over v s) k (Unit o i) ≡ first (unit_row (heap_graph v) (heap_value v word) i)
  unfolding graph_of
  unit_refused i = unit_by (over v s) k o (value_in v word) is i

  pub set_unit_refused : (i u : ℕ) → refused (over v s) k (SetUnit o i u) ≡ first (store_unit_row (heap_graph v) (heap_value v word) i u)
  unfolding graph_of
  set_unit_refused i u = set_unit_by (over v s) k o (value_in v word) is i u

  pub store_refused : (i : ℕ) (w : Text) (value : ℕ) → held (graph_of v) k w ≡ Some (value_in v value) → refused (over v s) k (Store o i w) ≡ first (store_row (heap_graph v) (heap_value v word) i)
  unfolding graph_of
  store_refused i w value other = store_by (over v s) k o (value_in v word) is i w (value_in v value) other
