-- The number that a word of a heap has.
use Rattle.std.proofs.Common.{◌≡◌, ℕ, Bool, true, false, cond, refl, ap, ◌∙◌, Some, None}
use Rattle.std.specs.Option.{unwrap_or}
use Rattle.spur_graph.specs.declared.answer.Value.{Value}
use Rattle.spur_graph.specs.declared.answer.Value.TheVariants.{Ref}
use Rattle.spur_graph.specs.Value.{int_of, value_of}
use Rattle.spur_graph.specs.Cells.{first, lead}
use Rattle.spur_graph.specs.Ordinary.{is_good_reference}
use Rattle.spur_graph.specs.CellGraph.{read, reference}
use Rattle.spur_graph.specs.Instances.{number_of}
use Rattle.spur_graph.specs.Heaps.{View, own_name, heap_value}
use Rattle.immediates.specs.declared.word_kind.Kind.{Kind}
use Rattle.immediates.specs.declared.word_kind.Kind.TheVariants as kinds
use Rattle.immediates.specs.Kinds.{value_by}
use Rattle.spur_heap.specs.Views.{store}

no_number : (b : Bool) (x y : ℕ) → number_of (cond b (Ref x) (Ref y)) ≡ None
no_number true x y = refl
no_number false x y = refl

-- a word by its kind
abbrev Says : Kind → ℕ → Type 0
Says k word = (named : ℕ → Value) → value_of named word ≡ value_by k named word

pub integer_read : (v : View) (word : ℕ) (k : Kind) → Says k word → k ≡ kinds.Int → number_of (heap_value v word) ≡ Some (int_of word)
unfolding read
integer_read v word k says is =
    ap (λ o. number_of (unwrap_or o (Ref (first (store v) 0)))) (says (reference own_name (store v)) ∙ ap (λ j. value_by j (reference own_name (store v)) word) is)

other_read : (v : View) (word : ℕ) (k : Kind) → (k ≡ kinds.Int → ⊥) → number_of (unwrap_or (value_by k (reference own_name (store v)) word) (Ref (first (store v) 0))) ≡ None
other_read v word kinds.Reference other = no_number (is_good_reference (store v) word) (unwrap_or (lead (store v) word) (first (store v) 0)) (first (store v) 0)
other_read v word kinds.Int other = absurd (other refl)
other_read v word kinds.Char other = refl
other_read v word kinds.Float other = refl
other_read v word kinds.Bad other = refl

pub no_integer_read : (v : View) (word : ℕ) (k : Kind) → Says k word → (k ≡ kinds.Int → ⊥) → number_of (heap_value v word) ≡ None
unfolding read
no_integer_read v word k says other = ap (λ o. number_of (unwrap_or o (Ref (first (store v) 0)))) (says (reference own_name (store v))) ∙ other_read v word k other
