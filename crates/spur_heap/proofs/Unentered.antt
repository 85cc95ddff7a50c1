-- Entered classes, by the store and by its graph: nil alone may stand at its hash without being one in the graph.
use Rattle.std.proofs.Common.{◌≡◌, ◌≢◌, ℕ, true, false, not, ◌&&◌, ◌||◌, ◌/◌, eqb, cond, refl, sym, ap, ◌∙◌, inl, inr, Some, None}
use Rattle.std.proofs.lemmas.Bool.{false≢true, cases_eq, eq-eqb, ne_eqb, and_parts, or_parts, not-true, ltb-true}
use Rattle.std.specs.FinMap.{get}
use Rattle.spur_graph.specs.declared.answer.Value.TheVariants.{Ref}
use Rattle.spur_graph.specs.Node.{Node}
use Rattle.spur_graph.specs.Graph.{node}
use Rattle.spur_graph.specs.Cells.{Store, first, lead}
use Rattle.spur_graph.specs.Ordinary.{class_limit, body_at, is_at, is_ordinary, is_nil_slot, has_page, page_entries, entry, has_entry, is_no_index, is_entered}
use Rattle.spur_graph.specs.CellGraph.{has_class}
use Rattle.spur_graph.specs.Instances.{is_entry, has_entered}
use Rattle.spur_graph.specs.Heaps.{View, IsWhole, heap_graph, heap_value}
use Rattle.heap_cells.proofs.Below.{at-named}
use Rattle.spur_heap.specs.Views.{IsOrdinary, store, node_in}
use Rattle.spur_heap.proofs.Changing.{IsNoClass}
use Rattle.spur_heap.proofs.ClassValues.{class_found, leading_value}
use Rattle.spur_heap.proofs.NodesAt.{node_there}
use Rattle.spur_heap.proofs.Puts.{fields_are}

-- an entered class of the store that is not nil is one of the graph
pub entered_then : (v : View) → IsWhole v → (s : ℕ) → IsOrdinary v s → s ≢ first (store v) 0 → is_entered (store v) s ≡ true → has_entered (heap_graph v) s ≡ true
unfolding is_entered
entered_then v w s there other on =
    let h : Store = store v in
    let hash : ℕ = (body_at h s).hash in
    let parts = and_parts (is_ordinary h s && not (is_no_index hash)) (has_entry h hash s) on in
    let known : is_no_index hash ≡ false = not-true _ (and_parts (is_ordinary h s) (not (is_no_index hash)) parts.0).1 in
    let some : eqb hash 0 ≡ false = (or_parts (eqb hash 0) (eqb hash 3) (or_parts (eqb hash 0 || eqb hash 3) (eqb hash 8) known).0).0 in
    let at = and_parts (has_page h hash) (is_at s (lead h (entry h hash))) parts.1 in
    let leads : lead h (entry h hash) ≡ Some s = at-named s (lead h (entry h hash)) at.1 in
    let low = ltb-true hash class_limit (and_parts _ (not (is_nil_slot h (hash / page_entries))) at.0).0 in
    let has : has_class h hash ≡ true = λ x. at.0 x && not ((ap (is_at (first h 0)) leads ∙ ne_eqb s (first h 0) other) x) in
    let found : get (heap_graph v).classes hash ≡ Some (Ref s) =
    class_found v w hash low ∙ ap (λ b. cond b (Some (heap_value v (entry h hash))) None) has ∙ ap (λ y. Some y) (leading_value v w hash low s at.0 leads) in
    let is : (node (heap_graph v) s).hash ≡ hash = ap (λ (n : Node). n.hash) (node_there v s there) ∙ (fields_are v w s there).hash in
    ap (λ i. not (eqb i 0) && is_entry s (get (heap_graph v).classes i)) is ∙ (λ x. not (some x) && is_entry s (found x)) ∙ eq-eqb s s refl

pub no_class : (v : View) → IsWhole v → (s : ℕ) → IsOrdinary v s → has_entered (heap_graph v) s ≡ false → IsNoClass (store v) s
no_class v w s there off on = elim (cases_eq s (first (store v) 0)) [
  | inl nil ↦ nil
  | inr other ↦ absurd (false≢true (sym off ∙ entered_then v w s there other on))
]

-- an object without a hash is none
pub unhashed : (v : View) (s : ℕ) → IsOrdinary v s → (node_in v s).hash ≡ 0 → has_entered (heap_graph v) s ≡ false
unhashed v s there none =
    let is : (node (heap_graph v) s).hash ≡ 0 = ap (λ (n : Node). n.hash) (node_there v s there) ∙ none in
    ap (λ i. not (eqb i 0) && is_entry s (get (heap_graph v).classes i)) is
