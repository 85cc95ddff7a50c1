-- Which objects the hidden roots name as pages.
use Rattle.std.proofs.Common.{◌≡◌, ◌≢◌, ℕ, Bool, true, false, not, ◌&&◌, ◌||◌, ◌+◌, ◌*◌, ◌<◌, eqb, get_or, length, refl, sym, ap, ◌∙◌, inl, inr, arith, Some}
use Rattle.std.proofs.lemmas.Bool.{false≢true, cases_eq, eq-eqb, ne_eqb, eqb-true, and_parts, false_from_ne_true}
use Rattle.spur_graph.specs.Cells.{Store, is_there, first, any_below}
use Rattle.spur_graph.specs.Ordinary.{page_places, page_entries, is_at, is_page_body, body_at, root_slot, tells, is_internal, is_ordinary}
use Rattle.spur_graph.specs.Heaps.{View, store_of}
use Rattle.heap_cells.proofs.Below.{any_below-found, any_below-has, at-named}
use Rattle.heap_cells.proofs.Internals.{a_page, place_cases}
use Rattle.heap_cells.proofs.WholeClosed.{sound_loadable}
use Rattle.spur_heap.specs.Words.{AreSound, body_in}
use Rattle.spur_heap.proofs.InternalMarks.{same_words, place_of}

-- the object is a page of the class table
abbrev pub is_page_start : View → ℕ → Bool
is_page_start v s = not (eqb s (first (store_of v) 0)) && any_below (λ i. tells (store_of v) i s) page_places

module _ (v : View) (k : AreSound v) (s : ℕ) where
  abbrev h : Store
  h = store_of v

  -- a slot of the hidden roots has the word of what it names
  pub slot_tells : (i : ℕ) → i < page_places → eqb (get_or v.words (first h 4 + 1 + i) 0) (8 * s) ≡ tells h i s
  slot_tells i l = let p = place_of v k i l in ap (λ w. eqb w (8 * s)) p.told ∙ same_words p.start s ∙ sym (ap (is_at s) p.named)

  -- the same by what was read
  pub word_tells : (roots word i : ℕ) → i < page_places → roots ≡ first h 4 → word ≡ get_or v.words (roots + 1 + i) 0 → eqb word (8 * s) ≡ tells h i s
  word_tells roots word i l at is = ap (λ w. eqb w (8 * s)) (is ∙ ap (λ r. get_or v.words (r + 1 + i) 0) at) ∙ slot_tells i l

  page_body : is_page_start v s ≡ true → is_page_body (body_at h s) ≡ true
  page_body on =
      let both = and_parts (not (eqb s (first h 0))) (any_below (λ i. tells h i s) page_places) on in
      let r = any_below-found (λ i. tells h i s) page_places both.1 in
      let named = at-named s (h.to (root_slot h r.0)) r.2 in
      elim (place_cases (sound_loadable h k.sound) r.0 r.1) [
        | inl nil ↦ let same : first h 0 ≡ s = some_same (sym (at-named (first h 0) (h.to (root_slot h r.0)) nil) ∙ named) in absurd (not_nil same both.0)
        | inr page ↦ let p = a_page h r.0 page in let same : p.0 ≡ s = some_same (sym p.1.named ∙ named) in ap (λ t. is_page_body (body_at h t)) (sym same) ∙ p.1.body
      ]
    where
      some_same : {a b : ℕ} → Some a ≡ Some b → a ≡ b
      some_same e = cc

      not_nil : first h 0 ≡ s → not (eqb s (first h 0)) ≡ true → ⊥
      not_nil same on = false≢true (sym (ap (λ t. not (eqb t (first h 0))) (sym same) ∙ ap not (eq-eqb (first h 0) (first h 0) refl)) ∙ on)

  -- so that what has another format or size is none
  pub other_format : (body_in v s).format ≢ 2 → is_page_start v s ≡ false
  other_format n = false_from_ne_true (is_page_start v s) (λ on. n (eqb-true (body_at h s).format 2 (and_parts (eqb (body_at h s).format 2) (eqb (length (body_at h s).words) page_entries) (page_body on)).0))

  pub other_size : length (body_in v s).words ≢ page_entries → is_page_start v s ≡ false
  other_size n = false_from_ne_true (is_page_start v s) (λ on. n (eqb-true (length (body_at h s).words) page_entries (and_parts (eqb (body_at h s).format 2) (eqb (length (body_at h s).words) page_entries) (page_body on)).1))

  -- an object that is none of the heap's own is ordinary
  pub ordinary_told : is_there (h.cell s) ≡ true → (not (eqb s (first h 3)) && not (eqb s (first h 4)) && not (is_page_start v s)) ≡ is_ordinary h s
  unfolding is_internal
  ordinary_told there = three (eqb s (first h 3)) (eqb s (first h 4)) (is_page_start v s) ∙ ap (λ b. b && not (is_internal h s)) (sym there)
    where
      three : (a b c : Bool) → (not a && not b && not c) ≡ (true && not (a || b || c))
      three true b c = refl
      three false true c = refl
      three false false c = refl

  module _ (there : is_there (h.cell s) ≡ true) where
    pub lists_told : s ≡ first h 3 → is_ordinary h s ≡ false
    lists_told same = sym (ordinary_told there) ∙ ap (λ b. not b && not (eqb s (first h 4)) && not (is_page_start v s)) (eq-eqb s (first h 3) same)

    pub roots_told : s ≢ first h 3 → s ≡ first h 4 → is_ordinary h s ≡ false
    roots_told other same = sym (ordinary_told there) ∙ (λ x. not (ne_eqb s (first h 3) other x) && not (eq-eqb s (first h 4) same x) && not (is_page_start v s))

    pub others_told : s ≢ first h 3 → s ≢ first h 4 → is_ordinary h s ≡ not (is_page_start v s)
    others_told other more = sym (ordinary_told there) ∙ (λ x. not (ne_eqb s (first h 3) other x) && not (ne_eqb s (first h 4) more x) && not (is_page_start v s))

-- a test that fails below a bound and at it
pub none_more : (f : ℕ → Bool) (n : ℕ) → any_below f n ≡ false → f n ≡ false → any_below f (n + 1) ≡ false
none_more f n none off = false_from_ne_true (any_below f (n + 1)) (λ on.
    let r = any_below-found f (n + 1) on in
    elim (cases_eq r.0 n) [
      | inl same ↦ false≢true (sym off ∙ ap f (sym same) ∙ r.2)
      | inr other ↦ false≢true (sym none ∙ any_below-has f n r.0 (let l = r.1 in omega (arith, l, other)) r.2)
    ])
