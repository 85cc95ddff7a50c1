-- The pointer slots of sound objects and of pages are good.
use Rattle.std.proofs.Common.{◌≡◌, ◌≢◌, ℕ, true, false, not, ◌&&◌, ◌||◌, ◌+◌, ◌*◌, ◌/◌, ◌%◌, ◌<◌, eqb, ltb, length, get_or, sym, ap, ◌∙◌, arith, inl, inr, Some}
use Rattle.std.proofs.lemmas.Bool.{false≢true, cases_Bool, eqb-true, eqb-false, ne_eqb, lt-ltb, and_parts, or_cases, not-true, not-false}
use Rattle.std.specs.Option.{unwrap_or}
use Rattle.spur_graph.specs.Value.{is_immediate_word}
use Rattle.spur_graph.specs.Cells.{Store, is_there, first, pointer_count, any_below}
use Rattle.spur_graph.specs.Ordinary.{page_places, page_entries, class_limit, is_at, passes, body_at, root_slot, tells, is_nil_slot, is_internal, is_ordinary, is_good_reference, is_good_word, has_page, page_of, entry}
use Rattle.spur_graph.specs.Heaps.{IsSound}
use Rattle.heap_cells.proofs.Below.{at-named, any_below-found}
use Rattle.heap_cells.proofs.Bodies.{all_pointers}
use Rattle.heap_cells.proofs.Entries.{entry_passes}
use Rattle.heap_cells.proofs.Internals.{a_page, place_cases}
use Rattle.heap_cells.proofs.WholeClosed.{sound_loadable}

module _ (h : Store) (sound : IsSound h) where
  nil_ordinary : is_ordinary h (first h 0) ≡ true
  nil_ordinary = λ x. sound.roots.objects 0 (omega arith) x && not (sound.roots.outer 0 (omega arith) x)

  -- an entry names an object that leads to an ordinary one
  pub entry-good : (i : ℕ) → has_page h i ≡ true → is_good_reference h (entry h i) ≡ true
  entry-good i e = let g = entry_passes h i nil_ordinary e (sound.roots.entries i) in ap (passes (is_ordinary h)) g.is ∙ g.holds

  -- an internal object that is neither the free lists object nor the hidden roots is a page
  page_place : (s : ℕ) → is_internal h s ≡ true → s ≢ first h 3 → s ≢ first h 4 → (j : ℕ) × (j < page_places) × (h.to (root_slot h j) ≡ Some s) × (s ≢ first h 0)
  unfolding is_internal
  page_place s on three four = elim (or_cases (eqb s (first h 3) || eqb s (first h 4)) (not (eqb s (first h 0)) && any_below (λ i. tells h i s) page_places) on) [
    | inl front ↦ elim (or_cases (eqb s (first h 3)) (eqb s (first h 4)) front) [
      | inl e ↦ absurd (three (eqb-true s (first h 3) e))
      | inr e ↦ absurd (four (eqb-true s (first h 4) e))
    ]
    | inr told ↦
        let parts = and_parts (not (eqb s (first h 0))) (any_below (λ i. tells h i s) page_places) told in
        let r = any_below-found (λ i. tells h i s) page_places parts.1 in
        (r.0, r.1, at-named s (h.to (root_slot h r.0)) r.2, eqb-false s (first h 0) (not-true _ parts.0))
  ]

  -- a pointer slot of a page is an entry of the class table
  pub record IsEntry (s i : ℕ) : Type 0 where
    pub index : ℕ
    pub below : index < class_limit
    pub page : has_page h index ≡ true
    pub word : entry h index ≡ get_or (body_at h s).words i 0

  page_slot : (s j i : ℕ) → j < page_places → h.to (root_slot h j) ≡ Some s → s ≢ first h 0 → i < pointer_count (body_at h s) → IsEntry s i
  page_slot s j i l to apart m = elim (place_cases (sound_loadable h sound) j l) [
    | inl nil ↦ let n = at-named (first h 0) (h.to (root_slot h j)) nil in let same : s ≡ first h 0 = cc in absurd (apart same)
    | inr page ↦
        let g = a_page h j page in
        let named = g.1.named in
        let same : g.0 ≡ s = cc in
        let body = and_parts (eqb (body_at h g.0).format 2) (eqb (length (body_at h g.0).words) page_entries) g.1.body in
        let two : (body_at h g.0).format ≡ 2 = eqb-true _ _ body.0 in
        let long : length (body_at h g.0).words ≡ page_entries = eqb-true _ _ body.1 in
        let count : pointer_count (body_at h s) ≡ page_entries = ap (λ t. pointer_count (body_at h t)) (sym same) ∙ all_pointers (body_at h g.0) (omega (arith, two)) ∙ long in
        let low : i < page_entries = omega (arith, m, count) in
        let k : ℕ = j * page_entries + i in
        let quot : k / page_entries ≡ j = omega (arith, low) in
        let rest : k % page_entries ≡ i = omega (arith, low) in
        let inside : k < class_limit = omega (arith, low, l) in
        let off : is_nil_slot h j ≡ false = ap (is_at (first h 0)) to ∙ ne_eqb s (first h 0) apart in
        let at : page_of h k ≡ s = ap (λ n. unwrap_or (h.to (root_slot h n)) h.names) quot ∙ ap (λ o. unwrap_or o h.names) to in
        record {
          index = k;
          below = inside;
          page = λ x. lt-ltb k class_limit inside x && not ((ap (is_nil_slot h) quot ∙ off) x);
          word = ap (λ t. get_or (body_at h t).words (k % page_entries) 0) at ∙ ap (λ n. get_or (body_at h s).words n 0) rest;
        }
  ]

  pub internal-entry : (s i : ℕ) → is_internal h s ≡ true → s ≢ first h 3 → s ≢ first h 4 → i < pointer_count (body_at h s) → IsEntry s i
  internal-entry s i on three four l = let r = page_place s on three four in page_slot s r.0 i r.1 r.2 r.3 l

  -- a pointer slot of an ordinary object or of a page that is no immediate names what leads to an ordinary object
  pub slot-good : (s i : ℕ) → is_there (h.cell s) ≡ true → s ≢ first h 3 → s ≢ first h 4 → i < pointer_count (body_at h s) → is_immediate_word (get_or (body_at h s).words i 0) ≡ false → is_good_reference h (get_or (body_at h s).words i 0) ≡ true
  slot-good s i there three four l off = elim (cases_Bool (is_internal h s)) [
    | inl on ↦ let e = internal-entry s i on three four l in ap (is_good_reference h) (sym e.word) ∙ entry-good e.index e.page
    | inr out ↦
        let ordinary : is_ordinary h s ≡ true = λ x. there x && not (out x) in
        let front : (is_ordinary h s && ltb i (pointer_count (body_at h s))) ≡ true = λ x. ordinary x && lt-ltb i (pointer_count (body_at h s)) l x in
        let word : is_good_word h (get_or (body_at h s).words i 0) ≡ true = not-false _ (sym (ap (λ b. b && not (is_good_word h (get_or (body_at h s).words i 0))) front) ∙ sound.slots s i) in
        elim (or_cases (is_immediate_word (get_or (body_at h s).words i 0)) (is_good_reference h (get_or (body_at h s).words i 0)) word) [
          | inl on ↦ absurd (false≢true (sym off ∙ on))
          | inr good ↦ good
        ]
  ]
