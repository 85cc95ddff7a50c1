-- The number of fixed slots that a class tells.
use Rattle.std.proofs.Common.{◌≡◌, ◌≢◌, ℕ, true, false, cond, ◌&&◌, ◌||◌, ◌-◌, ◌/◌, ◌%◌, ◌^◌, ◌<◌, ◌≤◌, eqb, ltb, List, [], ◌∷◌, length, refl, sym, ap, ◌∙◌, inl, inr, arith, Option, Some, None}
use Rattle.std.specs.Prelude.{pos, negsuc, slice_get, slice_index_or}
use Rattle.std.proofs.lemmas.Bool.{false≢true, cases_lt, eqb-true, ne_eqb, lt-ltb, le-ltb, and_parts, or_cases}
use Rattle.std.specs.Option.{unwrap_or, is_none}
use Rattle.spur_graph.specs.declared.answer.Value.{Value}
use Rattle.spur_graph.specs.declared.answer.Value.TheVariants.{Int, Char, Float, Ref}
use Rattle.spur_graph.specs.Value.{int_of, low_bits, is_immediate_word}
use Rattle.spur_graph.specs.Node.{Node}
use Rattle.spur_graph.specs.Graph.{Graph, blank}
use Rattle.spur_graph.specs.Live.{fixed_in, fixed_of}
use Rattle.spur_graph.specs.Cells.{first}
use Rattle.spur_graph.specs.Ordinary.{is_good_reference}
use Rattle.spur_graph.specs.CellGraph.{read, reference}
use Rattle.spur_graph.specs.Heaps.{View, heap_graph, heap_value, own_name}
use Rattle.heap_cells.proofs.Values.{read-integer}
use Rattle.spur_heap.specs.Views.{IsOrdinary, IsGood, node_in, store}
use Rattle.spur_heap.proofs.Leads.{reference_leads}
use Rattle.spur_heap.proofs.NodesAt.{node_there}

-- ---- the low bits of a number

low_number : (w : ℕ) → w < 2 ^ 64 → w % 8 ≡ 1 → low_bits 16 (int_of w) ≡ w / 8 % 65536
low_number w l tag = elim (cases_lt w (2 ^ 63)) [
  | inl low ↦ ap (low_bits 16) (ap (λ b. cond b (pos (w / 8)) (negsuc ((2 ^ 64 - 1 - w) / 8))) (lt-ltb w (2 ^ 63) low)) ∙ omega arith
  | inr high ↦ ap (low_bits 16) (ap (λ b. cond b (pos (w / 8)) (negsuc ((2 ^ 64 - 1 - w) / 8))) (le-ltb w (2 ^ 63) high)) ∙ omega (arith, tag, l, high)
]

pub number_slot : (v : View) (slot : ℕ) → slot < 2 ^ 64 → slot % 8 ≡ 1 → fixed_in (Some (heap_value v slot)) ≡ slot / 8 % 65536
number_slot v slot l tag = ap (λ x. fixed_in (Some x)) (read-integer own_name (store v) slot tag) ∙ low_number slot l tag

-- what is read of a word, by its tag
abbrev at_tag : ℕ → (ℕ → Value) → ℕ → Option Value
at_tag n named word =
    cond (eqb n 0) (Some (named word)) (cond (eqb n 1) (Some (Int (int_of word))) (cond (eqb n 2) (cond (ltb (word / 8) (2 ^ 30)) (Some (Char (word / 8))) None) (cond (eqb n 4) (Some (Float word)) None)))

-- a word of another tag tells none
pub no_number : (v : View) (w : ℕ) → IsGood v w → w % 8 ≢ 1 → fixed_in (Some (heap_value v w)) ≡ 0
unfolding read
no_number v w good n =
    let f = reference own_name (store v) in
    let d : Value = Ref (first (store v) 0) in
    elim (or_cases (is_immediate_word w) (is_good_reference (store v) w) good) [
      | inl on ↦ elim (or_cases ((eqb (w % 8) 1) || (eqb (w % 8) 2 && ltb (w / 8) (2 ^ 30))) (eqb (w % 8) 4) on) [
        | inl a ↦ elim (or_cases (eqb (w % 8) 1) (eqb (w % 8) 2 && ltb (w / 8) (2 ^ 30)) a) [
          | inl b ↦ absurd (n (eqb-true (w % 8) 1 b))
          | inr b ↦
              let both = and_parts (eqb (w % 8) 2) (ltb (w / 8) (2 ^ 30)) b in
              ap (λ k. fixed_in (Some (unwrap_or (at_tag k f w) d))) (eqb-true (w % 8) 2 both.0) ∙ ap (λ t. fixed_in (Some (unwrap_or (cond t (Some (Char (w / 8))) None) d))) both.1
        ]
        | inr a ↦ ap (λ k. fixed_in (Some (unwrap_or (at_tag k f w) d))) (eqb-true (w % 8) 4 a)
      ]
      | inr reference' ↦ ap (λ x. fixed_in (Some x)) (reference_leads v w reference').value
    ]

-- ---- slot 2 of a class

short : (vs : List Value) → length vs ≤ 2 → slice_get vs 2 ≡ None
short [] l = refl
short (a ∷ []) l = refl
short (a ∷ (b ∷ [])) l = refl
short (a ∷ (b ∷ (c ∷ vs))) l = absurd (omega (arith, l))

third : (vs : List Value) (d : Value) → 2 < length vs → slice_get vs 2 ≡ Some (slice_index_or vs 2 d)
third [] d l = absurd (omega (arith, l))
third (a ∷ []) d l = absurd (omega (arith, l))
third (a ∷ (b ∷ [])) d l = absurd (omega (arith, l))
third (a ∷ (b ∷ (c ∷ vs))) d l = refl

module _ (v : View) (x : Value) (start : ℕ) (there : IsOrdinary v start) (is : x ≡ Ref start) where
  told : fixed_of (heap_graph v) (Some x) ≡ fixed_in (slice_get (node_in v start).pointers 2)
  told = ap (λ y. fixed_of (heap_graph v) (Some y)) is ∙ ap (λ (n : Node). fixed_in (slice_get n.pointers 2)) (node_there v start there)

  pub too_short : length (node_in v start).pointers ≤ 2 → fixed_of (heap_graph v) (Some x) ≡ 0
  too_short l = told ∙ ap fixed_in (short (node_in v start).pointers l)

  pub by_slot : (slot : ℕ) → 2 < length (node_in v start).pointers → heap_value v slot ≡ slice_index_or (node_in v start).pointers 2 (heap_value v 0) → fixed_of (heap_graph v) (Some x) ≡ fixed_in (Some (heap_value v slot))
  by_slot slot l at = told ∙ ap fixed_in (third (node_in v start).pointers (heap_value v 0) l) ∙ ap (λ y. fixed_in (Some y)) (sym at)

-- ---- the class of an index

pub one_entered : (g : Graph) (o : Option Value) (x d : Value) → is_none o ≡ false → x ≡ unwrap_or o d → fixed_of g (Some x) ≡ fixed_of g o
one_entered g None x d e is = absurd (false≢true (sym e))
one_entered g (Some y) x d e is = ap (λ z. fixed_of g (Some z)) is
