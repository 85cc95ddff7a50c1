-- What the calls tell of the object that a value names, by its node in the heap.
use Rattle.std.proofs.Common.{◌≡◌, ◌<◌, ℕ, ap, sym, ◌∙◌}
use Rattle.std.specs.Prelude.{[], ◌∷◌, length, slice_index, slice_index_or, slice_set}
use Rattle.std.proofs.lemmas.List.{get_or_default}
use Rattle.spur_graph.specs.declared.answer.Value.{Value}
use Rattle.spur_graph.specs.declared.answer.Value.TheVariants.{Ref}
use Rattle.spur_graph.specs.declared.answer.Refusal.TheVariants as r
use Rattle.spur_graph.specs.Value.{name_of}
use Rattle.spur_graph.specs.Node.{Node}
use Rattle.spur_graph.specs.Graph.{Graph, node_at, with_node}
use Rattle.spur_graph.specs.Refusals.{first, test, raw_read, raw_write, raw_unit, index_in, unit_range}
use Rattle.spur_graph.specs.Heaps.{View, heap_graph}
use Rattle.spur_heap.specs.Views.{IsOrdinary, node_in}
use Rattle.spur_heap.proofs.NodesAt.{node_there, node_named}
use Rattle.read_barrier.specs.Rows.{fetch_row, store_row, unit_row, store_unit_row}

module _ (v : View) (s : ℕ) (x : Value) (there : IsOrdinary v s) (is : x ≡ Ref s) where
  -- the refusals that are left of an object
  pub fetch_left : (i : ℕ) → first (fetch_row (heap_graph v) x i) ≡ first (raw_read (node_in v s) ∷ index_in (node_in v s).pointers i ∷ [])
  fetch_left i = ap (λ y. first (fetch_row (heap_graph v) y i)) is ∙ ap (λ (n : Node). first (raw_read n ∷ index_in n.pointers i ∷ [])) (node_there v s there)

  pub store_left : (i : ℕ) → first (store_row (heap_graph v) x i) ≡ first (raw_write (node_in v s) i ∷ index_in (node_in v s).pointers i ∷ test (node_in v s).readonly r.ReadOnly ∷ [])
  store_left i =
      ap (λ y. first (store_row (heap_graph v) y i)) is
      ∙ ap (λ (n : Node). first (raw_write n i ∷ index_in n.pointers i ∷ test n.readonly r.ReadOnly ∷ [])) (node_there v s there)

  pub unit_left : (i : ℕ) → first (unit_row (heap_graph v) x i) ≡ first (raw_unit (node_in v s) ∷ index_in (node_in v s).units i ∷ [])
  unit_left i = ap (λ y. first (unit_row (heap_graph v) y i)) is ∙ ap (λ (n : Node). first (raw_unit n ∷ index_in n.units i ∷ [])) (node_there v s there)

  pub store_unit_left : (i u : ℕ) → first (store_unit_row (heap_graph v) x i u)
      ≡ first (raw_unit (node_in v s) ∷ index_in (node_in v s).units i ∷ unit_range (node_in v s) u ∷ test (node_in v s).readonly r.ReadOnly ∷ [])
  store_unit_left i u =
      ap (λ y. first (store_unit_row (heap_graph v) y i u)) is
      ∙ ap (λ (n : Node). first (raw_unit n ∷ index_in n.units i ∷ unit_range n u ∷ test n.readonly r.ReadOnly ∷ [])) (node_there v s there)

  -- the value of a slot, whatever value there would be past the last
  pub slot_value : (i at : ℕ) (other w : Value) → at ≡ i → at < length (node_in v s).pointers → w ≡ slice_index_or (node_in v s).pointers at other
      → w ≡ slice_index_or (node_at (heap_graph v) x).pointers i (Ref (heap_graph v).nil)
  slot_value i at other w same within told =
      told ∙ sym (get_or_default (node_in v s).pointers at (Ref (heap_graph v).nil) other within)
      ∙ ap (λ j. slice_index_or (node_in v s).pointers j (Ref (heap_graph v).nil)) same
      ∙ ap (λ (n : Node). slice_index_or n.pointers i (Ref (heap_graph v).nil)) (sym (node_named v s x there is))

  pub unit_is : (i at u : ℕ) → at ≡ i → u ≡ slice_index (node_in v s).units at → u ≡ slice_index (node_at (heap_graph v) x).units i
  unit_is i at u same told = told ∙ ap (slice_index (node_in v s).units) same ∙ ap (λ (n : Node). slice_index n.units i) (sym (node_named v s x there is))

  -- the graph with another value in a slot, or another unit
  pub slot_stored : (i at : ℕ) (w : Value) (g : Graph) → at ≡ i → g ≡ with_node (heap_graph v) s (record (node_in v s) { pointers = slice_set (node_in v s).pointers at w })
      → g ≡ with_node (heap_graph v) (name_of x) (let n : Node = node_at (heap_graph v) x in record n { pointers = slice_set n.pointers i w })
  slot_stored i at w g same told =
      told
      ∙ ap (λ j. with_node (heap_graph v) s (record (node_in v s) { pointers = slice_set (node_in v s).pointers j w })) same
      ∙ (λ k. with_node (heap_graph v) (name_of (sym is k)) (let n : Node = sym (node_named v s x there is) k in record n { pointers = slice_set n.pointers i w }))

  pub unit_stored : (i at u unit : ℕ) (g : Graph) → at ≡ i → unit ≡ u → g ≡ with_node (heap_graph v) s (record (node_in v s) { units = slice_set (node_in v s).units at unit })
      → g ≡ with_node (heap_graph v) (name_of x) (let n : Node = node_at (heap_graph v) x in record n { units = slice_set n.units i u })
  unit_stored i at u unit g same value told =
      told
      ∙ (λ k. with_node (heap_graph v) s (record (node_in v s) { units = slice_set (node_in v s).units (same k) (value k) }))
      ∙ (λ k. with_node (heap_graph v) (name_of (sym is k)) (let n : Node = sym (node_named v s x there is) k in record n { units = slice_set n.units i u }))
