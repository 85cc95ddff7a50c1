-- One slot after another.
use Rattle.std.proofs.Common.{◌≡◌, ◌≢◌, ℕ, true, false, ◌+◌, ◌/◌, ◌<◌, ◌≤◌, ◌⊎◌, List, length, get_or, refl, sym, ap, ◌∙◌, inl, inr, arith}
use Rattle.std.proofs.lemmas.Bool.{cases_Bool, cases_eq}
use Rattle.heap_walk.specs.declared.saved.Saved.{Saved}
use Rattle.planning_compactor.specs.Entries.{start_of, virtual}
use Rattle.compaction_laws.specs.Compacting.{is_pinned}
use Rattle.planning_compactor.specs.Readdressed.{is_between, moved_word, IsNamed, Rewritten}

-- a word is moved alike by words that tell the same of the chunk that it names
pub moved_word-same : (words words' : List ℕ) (low high w : ℕ)
    → (is_between low high w ≡ true → (get_or words' (w / 8) 0 ≡ get_or words (w / 8) 0) × (is_pinned words (w / 8) ≡ false → get_or words' (w / 8 + 1) 0 ≡ get_or words (w / 8 + 1) 0))
    → moved_word words' low high w ≡ moved_word words low high w
unfolding moved_word
moved_word-same words words' low high w k = elim (cases_Bool (is_between low high w)) [
  | inr out ↦ rw out refl
  | inl in' ↦
      let r = k in' in
      elim (cases_Bool (is_pinned words (w / 8))) [
        | inl on ↦ rw (in', r.0, on) refl
        | inr off ↦ rw (in', r.0, off) (r.1 off)
      ]
]

module _ (es es' : List Saved) (words words' : List ℕ) (low high s i n : ℕ) (r : Rewritten es es' words words' low high s i) (b : i < n) where
  -- the slot is as it was
  pub slot-now : virtual es' words' (s + 1 + i) ≡ virtual es words (s + 1 + i)
  slot-now = r.others (s + 1 + i) (inr (omega arith))

  module _ (es'' : List Saved) (words'' : List ℕ)
      (named : is_between low high (virtual es words (s + 1 + i)) ≡ true → IsNamed words es (virtual es words (s + 1 + i) / 8))
      (heads : is_between low high (virtual es words (s + 1 + i)) ≡ true → (virtual es words (s + 1 + i) / 8 ≤ s) ⊎ (s + n ≤ virtual es words (s + 1 + i) / 8))
      (same_words : length words'' ≡ length words') (same_table : length es'' ≡ length es')
      (starts : (k : ℕ) → k < length es' → start_of es'' k ≡ start_of es' k)
      (targets : (k : ℕ) → k < length es' → get_or words'' (start_of es' k + 1) 0 ≡ get_or words' (start_of es' k + 1) 0)
      (here : virtual es'' words'' (s + 1 + i) ≡ moved_word words' low high (virtual es' words' (s + 1 + i)))
      (others : (j : ℕ) → j ≢ s + 1 + i → virtual es'' words'' j ≡ virtual es' words' j)
      (outside : (j : ℕ) → j ≢ s + 1 + i → get_or words'' j 0 ≡ get_or words' j 0)
    where
      frame : moved_word words' low high (virtual es words (s + 1 + i)) ≡ moved_word words low high (virtual es words (s + 1 + i))
      frame = moved_word-same words words' low high (virtual es words (s + 1 + i)) (λ in'.
          let t : ℕ = virtual es words (s + 1 + i) / 8 in
          let far : (t ≤ s) ⊎ (s + i < t) = elim (heads in') [ inl a ↦ inl a | inr a ↦ inr (omega (arith, a, b)) ] in
          (r.outside t far, λ off. let k = (named in').kept off in ap (λ j. get_or words' (j + 1) 0) (sym k.2) ∙ r.targets k.0 k.1 ∙ ap (λ j. get_or words (j + 1) 0) k.2))

      pub rewritten-more : Rewritten es es'' words words'' low high s (i + 1)
      rewritten-more = record {
        same_words = same_words ∙ r.same_words;
        same_table = same_table ∙ r.same_table;
        starts = λ k l. starts k (omega (arith, l, r.same_table)) ∙ r.starts k l;
        targets = λ k l. ap (λ j. get_or words'' (j + 1) 0) (sym (r.starts k l)) ∙ targets k (omega (arith, l, r.same_table)) ∙ ap (λ j. get_or words' (j + 1) 0) (r.starts k l) ∙ r.targets k l;
        slots = λ m l. elim (cases_eq m i) [
          | inl e ↦ ap (λ q. virtual es'' words'' (s + 1 + q)) e ∙ here ∙ ap (moved_word words' low high) slot-now ∙ frame ∙ ap (λ q. moved_word words low high (virtual es words (s + 1 + q))) (sym e)
          | inr d ↦ others (s + 1 + m) (λ e. d (omega (arith, e))) ∙ r.slots m (omega (arith, l, d))
        ];
        others = λ j f. elim f [
          | inl a ↦ others j (λ e. omega (arith, e, a)) ∙ r.others j (inl a)
          | inr a ↦ others j (λ e. omega (arith, e, a)) ∙ r.others j (inr (omega (arith, a)))
        ];
        outside = λ j f. elim f [
          | inl a ↦ outside j (λ e. omega (arith, e, a)) ∙ r.outside j (inl a)
          | inr a ↦ outside j (λ e. omega (arith, e, a)) ∙ r.outside j (inr (omega (arith, a)))
        ];
      }
