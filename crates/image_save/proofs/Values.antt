-- The words that are followed name starts.
use Rattle.std.proofs.Common.{◌≡◌, ◌≢◌, ◌⊎◌, ℕ, true, false, not, ◌&&◌, ◌||◌, eqb, ltb, ◌+◌, ◌*◌, ◌/◌, ◌%◌, ◌<◌, length, get_or, sym, ap, ◌∙◌, subst, inl, inr, arith, Some}
use Rattle.std.proofs.lemmas.Bool.{false≢true, cases_Bool, cases_lt, eqb-true, eq-eqb, lt-ltb, and_parts, or_cases, not-true, not-false}
use Rattle.spur_graph.specs.Cells.{Store, is_start, is_there, pointer_count, first, any_below}
use Rattle.spur_graph.specs.Ordinary.{page_places, page_entries, roots_slots, body_at, root_slot, tells, is_nil_slot, is_page, is_internal, is_ordinary, is_good_word}
use Rattle.spur_graph.specs.Heaps.{View, store_of, heap_to}
use Rattle.heap_cells.specs.Settled.{word_of}
use Rattle.heap_cells.proofs.CellKinds.{there_starts}
use Rattle.heap_cells.proofs.Below.{at-named, any_below-found}
use Rattle.heap_cells.proofs.Bodies.{pointers_fit}
use Rattle.heap_cells.proofs.Internals.{a_page}
use Rattle.heap_cells.proofs.ObjectReads.{object-word}
use Rattle.spur_heap.specs.Words.{AreSound, is_good}
use Rattle.spur_heap.proofs.Orders.{order}
use Rattle.spur_heap.proofs.Hops.{reference_named}
use Rattle.spur_heap.proofs.Following.{good_reference}
use Rattle.spur_heap.proofs.Pages.{word_named, an_entry}
use Rattle.image_save.specs.Saved.{value_count}
use Rattle.image_save.specs.Words.{IsValue}

module _ (v : View) (k : AreSound v) where
  abbrev h : Store
  h = store_of v

  pub good_value : (w : ℕ) → is_good v w ≡ true → IsValue v w
  good_value w good z = (reference_named v k w (good_reference v k w good z)).starts

  -- a word that names a start
  named_value : (w s : ℕ) → heap_to w ≡ Some s → is_start (h.cell s) ≡ true → IsValue v w
  named_value w s e on z = ap (λ t. is_start (h.cell t)) (word_named w s e).1 ∙ on

  -- a slot of the hidden roots
  root_value : (i : ℕ) → i < roots_slots → IsValue v (root_slot h i)
  root_value i l = elim (cases_lt i page_places) [
    | inl place ↦ elim (cases_Bool (is_nil_slot h i)) [
      | inl on ↦ named_value (root_slot h i) (first h 0) (at-named (first h 0) (h.to (root_slot h i)) on) (there_starts (h.cell (first h 0)) (k.sound.roots.objects 0 (omega arith)))
      | inr off ↦
          let page : is_page h i ≡ true = not-false _ (sym (ap (λ b. not b && not (is_page h i)) off) ∙ k.sound.roots.pages i place) in
          let p = a_page h i page in
          named_value (root_slot h i) p.0 p.1.named (there_starts (h.cell p.0) p.1.there)
    ]
    | inr top ↦ λ z.
        let is : root_slot h i ≡ 8 * first h 0 = k.sound.roots.tops i top l in
        let at : root_slot h i / 8 ≡ first h 0 = omega (arith, is) in
        ap (λ t. is_start (h.cell t)) at ∙ there_starts (h.cell (first h 0)) (k.sound.roots.objects 0 (omega arith))
  ]

  -- a slot of a page
  page_good : (i s n : ℕ) → i < page_places → heap_to (root_slot h i) ≡ Some s → s ≢ first h 0 → n < length (body_at h s).words → is_good v (get_or v.words (s + 1 + n) 0) ≡ true
  page_good i s n place named other l =
      let off : is_nil_slot h i ≡ false = not_there (cases_Bool (is_nil_slot h i)) in
      let page : is_page h i ≡ true = not-false _ (sym (ap (λ b. not b && not (is_page h i)) off) ∙ k.sound.roots.pages i place) in
      let p = a_page h i page in
      let q = word_named (root_slot h i) s named in
      let same : p.0 ≡ s = sym (word_named (root_slot h i) p.0 p.1.named).1 ∙ q.1 in
      let body = and_parts (eqb (body_at h p.0).format 2) (eqb (length (body_at h p.0).words) page_entries) p.1.body in
      let long : length (body_at h s).words ≡ page_entries = ap (λ t. length (body_at h t).words) (sym same) ∙ eqb-true _ _ body.1 in
      let index : ℕ = i * page_entries + n in
      let at : index / page_entries ≡ i = omega (arith, l, long) in
      let rest : index % page_entries ≡ n = omega (arith, l, long) in
      let e = an_entry v k index (omega (arith, place, l, long)) (λ is. other (sym q.1 ∙ ap (λ w. w / 8) (ap (root_slot h) (sym at) ∙ is) ∙ (let back : word_of (first h 0) / 8 ≡ first h 0 = omega arith in back))) in
      let place_is : root_slot h (index / page_entries) / 8 + 1 + index % page_entries ≡ s + 1 + n = (λ x. root_slot h (at x) / 8 + 1 + rest x) ∙ ap (λ t. t + 1 + n) q.1 in
      subst (λ w. is_good v w ≡ true) (e.word ∙ ap (λ j. get_or v.words j 0) place_is) e.good
    where
      not_there : (is_nil_slot h i ≡ true) ⊎ (is_nil_slot h i ≡ false) → is_nil_slot h i ≡ false
      not_there (inr off) = off
      not_there (inl on) = absurd (other (sym (word_named (root_slot h i) s named).1 ∙ (word_named (root_slot h i) (first h 0) (at-named (first h 0) (h.to (root_slot h i)) on)).1))

  -- a pointer slot of any object but the free lists object
  pub slot_value : (s n : ℕ) → is_there (h.cell s) ≡ true → s ≢ first h 3 → n < pointer_count (body_at h s) → IsValue v (get_or v.words (s + 1 + n) 0)
  unfolding is_internal
  slot_value s n there other l =
      let long : n < length (body_at h s).words = let fit = pointers_fit (body_at h s) (k.sound.formed s there) in omega (arith, l, fit) in
      let word : get_or (body_at h s).words n 0 ≡ get_or v.words (s + 1 + n) 0 = object-word _ v.words _ (order v k) s there n long in
      elim (cases_Bool (is_internal h s)) [
        | inr off ↦
            let ordinary : is_ordinary h s ≡ true = λ i. there i && not (off i) in
            let good : is_good_word h (get_or (body_at h s).words n 0) ≡ true = not-false _ (sym (ap (λ b. b && ltb n (pointer_count (body_at h s)) && not (is_good_word h (get_or (body_at h s).words n 0))) ordinary
            ∙ ap (λ b. b && not (is_good_word h (get_or (body_at h s).words n 0))) (lt-ltb n (pointer_count (body_at h s)) l)) ∙ k.sound.slots s n) in
            subst (IsValue v) word (good_value (get_or (body_at h s).words n 0) good)
        | inl on ↦ elim (or_cases (eqb s (first h 3) || eqb s (first h 4)) (not (eqb s (first h 0)) && any_below (λ i. tells h i s) page_places) on) [
          | inl more ↦ elim (or_cases (eqb s (first h 3)) (eqb s (first h 4)) more) [
            | inl lists ↦ absurd (other (eqb-true s (first h 3) lists))
            | inr roots ↦
                let is : s ≡ first h 4 = eqb-true s (first h 4) roots in
                let inside : n < roots_slots = let all = k.sound.roots.roots.1 in let same = ap (λ t. length (body_at h t).words) is in omega (arith, long, same, all) in
                subst (IsValue v) (sym (ap (λ t. get_or (body_at h t).words n 0) is) ∙ word) (root_value n inside)
          ]
          | inr page ↦
              let p = and_parts (not (eqb s (first h 0))) (any_below (λ i. tells h i s) page_places) page in
              let f = any_below-found (λ i. tells h i s) page_places p.1 in
              good_value (get_or v.words (s + 1 + n) 0) (page_good f.0 s n f.1 (at-named s (h.to (root_slot h f.0)) f.2) (λ e. false≢true (sym (not-true _ p.0) ∙ eq-eqb s (first h 0) e)) long)
        ]
      ]

  -- a pointer slot of an ordinary object or a page has a value
  pub slot_good : (s n : ℕ) → is_there (h.cell s) ≡ true → s ≢ first h 3 → s ≢ first h 4 → n < pointer_count (body_at h s) → is_good v (get_or (body_at h s).words n 0) ≡ true
  unfolding is_internal
  slot_good s n there other no_roots l =
      let long : n < length (body_at h s).words = let fit = pointers_fit (body_at h s) (k.sound.formed s there) in omega (arith, l, fit) in
      let word : get_or (body_at h s).words n 0 ≡ get_or v.words (s + 1 + n) 0 = object-word _ v.words _ (order v k) s there n long in
      elim (cases_Bool (is_internal h s)) [
        | inr off ↦
            let ordinary : is_ordinary h s ≡ true = λ i. there i && not (off i) in
            not-false _ (sym (ap (λ b. b && ltb n (pointer_count (body_at h s)) && not (is_good_word h (get_or (body_at h s).words n 0))) ordinary
            ∙ ap (λ b. b && not (is_good_word h (get_or (body_at h s).words n 0))) (lt-ltb n (pointer_count (body_at h s)) l)) ∙ k.sound.slots s n)
        | inl on ↦ elim (or_cases (eqb s (first h 3) || eqb s (first h 4)) (not (eqb s (first h 0)) && any_below (λ i. tells h i s) page_places) on) [
          | inl more ↦ elim (or_cases (eqb s (first h 3)) (eqb s (first h 4)) more) [
            | inl lists ↦ absurd (other (eqb-true s (first h 3) lists))
            | inr roots ↦ absurd (no_roots (eqb-true s (first h 4) roots))
          ]
          | inr page ↦
              let p = and_parts (not (eqb s (first h 0))) (any_below (λ i. tells h i s) page_places) page in
              let f = any_below-found (λ i. tells h i s) page_places p.1 in
              subst (λ w. is_good v w ≡ true) (sym word) (page_good f.0 s n f.1 (at-named s (h.to (root_slot h f.0)) f.2) (λ e. false≢true (sym (not-true _ p.0) ∙ eq-eqb s (first h 0) e)) long)
        ]
      ]

  -- what a place of the hidden roots names is an object
  pub root_there : (i s : ℕ) → i < page_places → h.to (root_slot h i) ≡ Some s → is_there (h.cell s) ≡ true
  root_there i s l e = elim (cases_Bool (is_nil_slot h i)) [
    | inl on ↦
        let same : first h 0 ≡ s = sym (word_named (root_slot h i) (first h 0) (at-named (first h 0) (h.to (root_slot h i)) on)).1 ∙ (word_named (root_slot h i) s e).1 in
        ap (λ t. is_there (h.cell t)) (sym same) ∙ k.sound.roots.objects 0 (omega arith)
    | inr off ↦
        let page : is_page h i ≡ true = not-false _ (sym (ap (λ b. not b && not (is_page h i)) off) ∙ k.sound.roots.pages i l) in
        let p = a_page h i page in
        let same : p.0 ≡ s = sym (word_named (root_slot h i) p.0 p.1.named).1 ∙ (word_named (root_slot h i) s e).1 in
        ap (λ t. is_there (h.cell t)) (sym same) ∙ p.1.there
  ]

  -- the same by the count that a cursor has
  pub counted_value : (s n : ℕ) → is_there (h.cell s) ≡ true → s ≢ first h 3 → n < value_count v s → IsValue v (get_or v.words (s + 1 + n) 0)
  unfolding value_count
  counted_value s n there other l = slot_value s n there other l
