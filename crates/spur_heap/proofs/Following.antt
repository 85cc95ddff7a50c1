-- A word and the word to which its forwarders lead.
use Rattle.std.proofs.Common.{◌≡◌, ◌≢◌, ℕ, true, cond, ◌/◌, ◌%◌, refl, sym, ap, ◌∙◌, arith, inl, inr, Some}
use Rattle.std.proofs.lemmas.Bool.{or_cases, or_right}
use Rattle.std.specs.Option.{unwrap_or, option_map}
use Rattle.spur_graph.specs.declared.answer.Value.TheVariants.{Ref}
use Rattle.spur_graph.specs.Value.{is_immediate_word}
use Rattle.spur_graph.specs.Cells.{first, final, lead}
use Rattle.spur_graph.specs.Ordinary.{is_ordinary, is_good_reference, passes}
use Rattle.spur_graph.specs.Heaps.{View, store_of, heap_value, own_name}
use Rattle.heap_cells.specs.Settled.{settled_word, word_of}
use Rattle.heap_cells.proofs.Both.{immediate_stays}
use Rattle.heap_cells.proofs.Chains.{final-there}
use Rattle.heap_cells.proofs.Internals.{heap-named}
use Rattle.heap_cells.proofs.References.{ordinary_there, immediate_tag, not_immediate}
use Rattle.heap_cells.proofs.Values.{read-reference, reference-good}
use Rattle.spur_heap.specs.Words.{AreSound, is_good}
use Rattle.spur_heap.proofs.Hops.{reference_named}

-- the word of an ordinary object's start
module _ (v : View) (s : ℕ) (ordinary : is_ordinary (store_of v) s ≡ true) where
  pub own_lead : lead (store_of v) (word_of s) ≡ Some s
  own_lead = ap (option_map (final (store_of v))) (heap-named s) ∙ ap (λ t. Some t) (final-there (store_of v) s (ordinary_there (store_of v) s ordinary))

  pub own_good : is_good_reference (store_of v) (word_of s) ≡ true
  own_good = ap (passes (is_ordinary (store_of v))) own_lead ∙ ordinary

  pub own_value : heap_value v (word_of s) ≡ Ref s
  own_value = read-reference own_name (store_of v) (word_of s) (omega arith) ∙ reference-good own_name (store_of v) (word_of s) s own_good own_lead

-- what following a word gives
pub record Followed (v : View) (word result : ℕ) : Type 0 where
  pub followed : result ≡ settled_word (store_of v) word
  pub value : heap_value v result ≡ heap_value v word
  pub good : is_good v result ≡ true

module _ (v : View) (k : AreSound v) (word : ℕ) (good : is_good v word ≡ true) where
  pub good_reference : word % 8 ≡ 0 → is_good_reference (store_of v) word ≡ true
  good_reference z = elim (or_cases (is_immediate_word word) (is_good_reference (store_of v) word) good) [
    | inl on ↦ absurd (immediate_tag word on z)
    | inr reference ↦ reference
  ]

  pub stays : word % 8 ≢ 0 → Followed v word word
  stays n = elim (or_cases (is_immediate_word word) (is_good_reference (store_of v) word) good) [
    | inl on ↦ record { followed = sym (immediate_stays (store_of v) word on); value = refl; good = good }
    | inr reference ↦ absurd (n (reference_named v k word reference).aligned)
  ]

  pub leads : word % 8 ≡ 0 → Followed v word (word_of (final (store_of v) (word / 8)))
  leads z =
      let reference = good_reference z in
      let n = reference_named v k word reference in
      let s : ℕ = final (store_of v) (word / 8) in
      record {
        followed = sym (ap (λ b. cond b word (cond (is_good_reference (store_of v) word) (word_of (unwrap_or (lead (store_of v) word) (first (store_of v) 0))) (word_of (first (store_of v) 0)))) (not_immediate word z)
            ∙ ap (λ b. cond b (word_of (unwrap_or (lead (store_of v) word) (first (store_of v) 0))) (word_of (first (store_of v) 0))) reference
            ∙ ap (λ o. word_of (unwrap_or o (first (store_of v) 0))) n.leads);
        value = own_value v s n.ordinary ∙ sym (read-reference own_name (store_of v) word z ∙ reference-good own_name (store_of v) word s reference n.leads);
        good = or_right (is_immediate_word (word_of s)) (is_good_reference (store_of v) (word_of s)) (own_good v s n.ordinary);
      }
