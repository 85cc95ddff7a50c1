-- Whether the class table has an object at its hash.
use Rattle.std.proofs.Common.{◌≡◌, inl, inr, ◌<◌, ◌*◌, ◌&&◌, eqb, ℕ, Bool, true, false, not, refl, ap, sym, ◌∙◌, Option, Some, None, arith}
use Rattle.std.proofs.lemmas.Bool.{false≢true, cases_Bool, cases_eq, eq-eqb, ne_eqb, eqb-true, and_parts, not-true}
use Rattle.std.specs.Option.{is_none}
use Rattle.std.specs.FinMap.{get}
use Rattle.spur_graph.specs.declared.answer.Value.{Value}
use Rattle.spur_graph.specs.Node.{Node}
use Rattle.spur_graph.specs.Graph.{node}
use Rattle.spur_graph.specs.Cells.{Store}
use Rattle.spur_graph.specs.Ordinary.{class_limit, body_at, is_ordinary, has_entry, is_no_index, is_entered}
use Rattle.spur_graph.specs.CellGraph.{has_class}
use Rattle.spur_graph.specs.Instances.{is_entry, has_entered}
use Rattle.spur_graph.specs.Heaps.{View, IsWhole, heap_graph}
use Rattle.spur_heap.specs.Views.{IsOrdinary, store, node_in, class_word}
use Rattle.spur_heap.proofs.ClassValues.{HasClass, class_leads, no_class, class_word_of}
use Rattle.spur_heap.proofs.NodesAt.{node_there}
use Rattle.spur_heap.proofs.Puts.{fields_are}

-- words of objects are one where the objects are
eight_same : (a b t s : ℕ) → a ≡ 8 * t → b ≡ 8 * s → eqb a b ≡ eqb t s
eight_same a b t s left right = elim (cases_eq t s) [
  | inl e ↦ eq-eqb a b (omega (arith, left, right, e)) ∙ sym (eq-eqb t s e)
  | inr n ↦ ne_eqb a b (λ e. n (omega (arith, left, right, e))) ∙ sym (ne_eqb t s n)
]

pub unentered : (s : ℕ) (o : Option Value) → is_none o ≡ true → false ≡ is_entry s o
unentered s None none = refl
unentered s (Some x) none = absurd (false≢true none)

module _ (v : View) (w : IsWhole v) (index : ℕ) (low : index < class_limit) where
  -- the word of the class of an index tells whether an object is that class
  pub entry_told : (s r word : ℕ) → class_word v index r → word ≡ 8 * s → is_none (get (heap_graph v).classes index) ≡ false → eqb r word ≡ is_entry s (get (heap_graph v).classes index)
  entry_told s r word is own some = elim (cases_Bool (has_class (store v) index)) [
    | inl has ↦
        let k : HasClass v index = class_leads v w index low has in
        eight_same r word k.start s (class_word_of v w index low k has r is) own ∙ sym (ap (is_entry s) k.found)
    | inr lacks ↦ absurd (false≢true (sym some ∙ ap is_none (no_class v w index low lacks)))
  ]

  -- what is at an index stands at one that a class can have
  entry_known : (s : ℕ) → is_entry s (get (heap_graph v).classes index) ≡ true → is_entered (store v) s ≡ true
  entry_known s on = elim (cases_Bool (has_class (store v) index)) [
    | inl has ↦
        let k : HasClass v index = class_leads v w index low has in
        let one : k.start ≡ s = eqb-true k.start s (sym (ap (is_entry s) k.found) ∙ on) in
        sym (ap (is_entered (store v)) one) ∙ k.entered
    | inr lacks ↦ absurd (false≢true (sym (ap (is_entry s) (no_class v w index low lacks)) ∙ on))
  ]

-- an entered class has a hash that is none of the indices that no class has
index_known : (h : Store) (s : ℕ) → is_entered h s ≡ true → is_no_index (body_at h s).hash ≡ false
unfolding is_entered
index_known h s on =
    not-true _ (and_parts (is_ordinary h s) (not (is_no_index (body_at h s).hash))
    (and_parts (is_ordinary h s && not (is_no_index (body_at h s).hash)) (has_entry h (body_at h s).hash s) on).0).1

pub hash_known : (v : View) → IsWhole v → (s : ℕ) → IsOrdinary v s → (node_in v s).hash < class_limit → has_entered (heap_graph v) s ≡ true → is_no_index (node_in v s).hash ≡ false
hash_known v w s there low on =
    let at : (node (heap_graph v) s).hash ≡ (node_in v s).hash = ap (λ (n : Node). n.hash) (node_there v s there) in
    let here = (and_parts (not (eqb (node (heap_graph v) s).hash 0)) (is_entry s (get (heap_graph v).classes (node (heap_graph v) s).hash)) on).1 in
    let entry = sym (ap (λ i. is_entry s (get (heap_graph v).classes i)) at) ∙ here in
    ap is_no_index (fields_are v w s there).hash ∙ index_known (store v) s (entry_known v w (node_in v s).hash low s entry)

-- has a hash, and is at it
pub entered_by : (v : View) (s hash : ℕ) (b : Bool) → IsOrdinary v s → hash ≡ (node_in v s).hash → b ≡ (not (eqb hash 0) && is_entry s (get (heap_graph v).classes hash)) → b ≡ has_entered (heap_graph v) s
entered_by v s hash b there is told =
    told ∙ ap (λ i. not (eqb i 0) && is_entry s (get (heap_graph v).classes i)) (is ∙ sym (ap (λ (n : Node). n.hash) (node_there v s there)))
