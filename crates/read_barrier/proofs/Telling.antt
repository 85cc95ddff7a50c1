-- What is told of the values of words: of immediates by their kind, of objects by where they start.
use Rattle.std.proofs.Common.{◌≡◌, ◌≢◌, ◌<◌, ◌/◌, ℕ, refl, ap, sym, ◌∙◌, arith}
use Rattle.std.specs.Prelude.{true}
use Rattle.std.specs.Option.{unwrap_or}
use Rattle.std.specs.FinMap.{get}
use Rattle.std.proofs.lemmas.Bool.{ne_eqb}
use Rattle.spur_graph.specs.declared.answer.Value.{Value}
use Rattle.spur_graph.specs.declared.answer.Value.TheVariants.{Ref}
use Rattle.spur_graph.specs.declared.answer.Shown.TheVariants as shows
use Rattle.spur_graph.specs.Value.{value_of}
use Rattle.spur_graph.specs.Node.{Node}
use Rattle.spur_graph.specs.Classes.{class_index, class_value}
use Rattle.spur_graph.specs.Shows.{shown}
use Rattle.spur_graph.specs.Cells.{first}
use Rattle.spur_graph.specs.Ordinary.{is_good_reference, class_limit}
use Rattle.spur_graph.specs.CellGraph.{read, reference}
use Rattle.spur_graph.specs.Heaps.{View, IsWhole, heap_graph, heap_value, own_name}
use Rattle.immediates.specs.declared.word_kind.Kind.{Kind}
use Rattle.immediates.specs.Kinds.{value_by}
use Rattle.spur_heap.specs.Views.{IsOrdinary, store, follows, node_in, class_word}
use Rattle.spur_heap.proofs.Leads.{reference_leads}
use Rattle.spur_heap.proofs.ClassValues.{class_there}
use Rattle.spur_heap.proofs.NodesAt.{node_there}

-- the value of a word of a kind
pub value_of_kind : (v : View) (word : ℕ) (kind k : Kind) → ((named : ℕ → Value) → value_of named word ≡ value_by kind named word) → kind ≡ k
    → heap_value v word ≡ unwrap_or (value_by k (reference own_name (store v)) word) (Ref (first (store v) 0))
unfolding read
value_of_kind v word kind k says is =
    ap (λ o. unwrap_or o (Ref (first (store v) 0))) (says (reference own_name (store v)) ∙ ap (λ j. value_by j (reference own_name (store v)) word) is)

-- the value of a reference, by the word followed
pub start_named : (v : View) (word followed : ℕ) → is_good_reference (store v) word ≡ true → follows v word followed → heap_value v word ≡ Ref (followed / 8)
start_named v word followed good is =
    let l = reference_leads v word good in
    let one : l.start ≡ followed / 8 = omega (arith, is, l.settled) in
    l.value ∙ ap (λ s. Ref s) one

-- the class index of an object
pub object_class : (v : View) (s class : ℕ) (x : Value) → IsOrdinary v s → x ≡ Ref s → class ≡ (node_in v s).class → class ≡ class_index (heap_graph v) x
object_class v s class x there is told =
    told ∙ ap (λ (n : Node). n.class) (sym (node_there v s there)) ∙ ap (class_index (heap_graph v)) (sym is)

-- the value of the class at the class index of a value
pub class_told : (v : View) → IsWhole v → (x : Value) (index word : ℕ) → index < class_limit → index ≡ class_index (heap_graph v) x → class_word v index word → heap_value v word ≡ class_value (heap_graph v) x
class_told v w x index word low is told =
    class_there v w index low word told ∙ ap (λ i. unwrap_or (get (heap_graph v).classes i) (Ref (first (store v) 0))) is

-- what is shown of an object that is none of the first three
pub object_shown : (v : View) (s class format : ℕ) → IsOrdinary v s → s ≢ first (store v) 0 → s ≢ first (store v) 1 → s ≢ first (store v) 2 → class ≡ (node_in v s).class → format ≡ (node_in v s).format
    → shows.Object class format ≡ shown (heap_graph v) (Ref s)
object_shown v s class format there not_nil not_no not_yes class_is format_is =
    (λ k. shows.Object (class_is k) (format_is k))
    ∙ ap (λ (n : Node). shows.Object n.class n.format) (sym (node_there v s there))
    ∙ sym (rw (ne_eqb s (first (store v) 0) not_nil, ne_eqb s (first (store v) 1) not_no, ne_eqb s (first (store v) 2) not_yes) refl)
