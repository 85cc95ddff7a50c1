-- Words of references: a good one leads to the same object once it is settled.
use Rattle.std.proofs.Common.{◌≡◌, ◌≢◌, ℕ, true, false, not, ◌&&◌, ◌||◌, ◌/◌, ◌%◌, ◌^◌, eqb, ltb, ap, ◌∙◌, arith, inl, inr, Some}
use Rattle.std.proofs.lemmas.Bool.{cases_Bool, eqb-true, and_parts, or_parts, or_cases, not-true, eqb-false, cond-true, cond-false}
use Rattle.std.specs.Option.{unwrap_or, option_map}
use Rattle.spur_graph.specs.Value.{is_immediate_word}
use Rattle.spur_graph.specs.Cells.{Store, is_there, first, final, lead, any_below}
use Rattle.spur_graph.specs.Ordinary.{page_places, tells, is_internal, is_ordinary, is_good_reference}
use Rattle.heap_cells.specs.Settled.{settled_word, word_of}
use Rattle.heap_cells.proofs.Below.{mapped_there}
use Rattle.heap_cells.proofs.Both.{Both, there-same}
use Rattle.heap_cells.proofs.Chains.{final-there}
use Rattle.heap_cells.proofs.Internals.{to-heap, heap-named}

pub ordinary_there : (h : Store) (s : ℕ) → is_ordinary h s ≡ true → is_there (h.cell s) ≡ true
ordinary_there h s e = (and_parts (is_there (h.cell s)) (not (is_internal h s)) e).0

pub ordinary_apart : (h : Store) (s : ℕ) → is_ordinary h s ≡ true → (s ≢ first h 4) × (s ≢ first h 3)
unfolding is_internal
ordinary_apart h s e =
    let off : is_internal h s ≡ false = not-true _ (and_parts (is_there (h.cell s)) (not (is_internal h s)) e).1 in
    let front = (or_parts (eqb s (first h 3) || eqb s (first h 4)) (not (eqb s (first h 0)) && any_below (λ i. tells h i s) page_places) off).0 in
    let both = or_parts (eqb s (first h 3)) (eqb s (first h 4)) front in
    (eqb-false s (first h 4) both.1, eqb-false s (first h 3) both.0)

-- the tag of an immediate is none of a reference
pub immediate_tag : (w : ℕ) → is_immediate_word w ≡ true → w % 8 ≢ 0
immediate_tag w e z = elim (or_cases ((eqb (w % 8) 1) || (eqb (w % 8) 2 && ltb (w / 8) (2 ^ 30))) (eqb (w % 8) 4) e) [
  | inl a ↦ elim (or_cases (eqb (w % 8) 1) (eqb (w % 8) 2 && ltb (w / 8) (2 ^ 30)) a) [
    | inl b ↦ let one = eqb-true (w % 8) 1 b in omega (arith, one, z)
    | inr b ↦ let two = eqb-true (w % 8) 2 (and_parts (eqb (w % 8) 2) (ltb (w / 8) (2 ^ 30)) b).0 in omega (arith, two, z)
  ]
  | inr a ↦ let four = eqb-true (w % 8) 4 a in omega (arith, four, z)
]

pub not_immediate : (w : ℕ) → w % 8 ≡ 0 → is_immediate_word w ≡ false
not_immediate w z = elim (cases_Bool (is_immediate_word w)) [ inl on ↦ absurd (immediate_tag w on z) | inr off ↦ off ]

module _ {old new : Store} (k : Both old new) where
  pub heap-lead : (s : ℕ) → is_ordinary old s ≡ true → lead new (word_of s) ≡ Some s
  heap-lead s e = ap (option_map (final new)) (to-heap k (word_of s) ∙ heap-named s) ∙ ap (λ t. Some t) (final-there new s (there-same k s ∙ ordinary_there old s e))

  -- a word that leads somewhere is no immediate
  pub lead_tag : (w s : ℕ) → lead old w ≡ Some s → w % 8 ≡ 0
  lead_tag w s e = let p = mapped_there (final old) (old.to w) s e in k.named.aligned w p.0 p.1

  pub settled-good : (w s : ℕ) → lead old w ≡ Some s → is_good_reference old w ≡ true → settled_word old w ≡ word_of s
  settled-good w s is e =
      cond-false (is_immediate_word w) _ _ (not_immediate w (lead_tag w s is)) ∙ cond-true (is_good_reference old w) _ _ e
      ∙ ap (λ o. word_of (unwrap_or o (first old 0))) is

  pub settled-bad : (w : ℕ) → is_immediate_word w ≡ false → is_good_reference old w ≡ false → settled_word old w ≡ word_of (first old 0)
  settled-bad w off e = cond-false (is_immediate_word w) _ _ off ∙ cond-false (is_good_reference old w) _ _ e
