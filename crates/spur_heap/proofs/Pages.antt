-- The pages of the class table, as the words have them.
use Rattle.std.proofs.Common.{◌≡◌, ◌≢◌, ℕ, true, false, cond, not, ◌&&◌, ◌||◌, ◌+◌, ◌*◌, ◌/◌, ◌%◌, ◌<◌, ◌≤◌, eqb, ltb, length, get_or, refl, sym, ap, ◌∙◌, arith, inl, inr, Some, None}
use Rattle.std.proofs.lemmas.Bool.{cases_eq, eq-eqb, ne_eqb, eqb-true, lt-ltb, le-ltb, and_parts, and_left, and_right, or_cases, or_right, not-false, false_from_ne_true}
use Rattle.std.specs.Option.{unwrap_or}
use Rattle.spur_graph.specs.Value.{is_immediate_word}
use Rattle.spur_graph.specs.Cells.{Store, first, lead}
use Rattle.spur_graph.specs.Ordinary.{page_entries, page_places, class_limit, roots_slots, is_at, passes, body_at, root_slot, is_nil_slot, is_page, is_ordinary, is_good_reference, has_page, entry, is_entered}
use Rattle.spur_graph.specs.Heaps.{View, store_of, heap_to}
use Rattle.heap_cells.specs.Settled.{word_of}
use Rattle.heap_cells.proofs.Below.{passed, at-named}
use Rattle.heap_cells.proofs.Internals.{a_page, heap-named}
use Rattle.heap_cells.proofs.Entries.{place_below, entered_ordinary}
use Rattle.heap_cells.proofs.ObjectReads.{object-word, object-inside}
use Rattle.spur_heap.proofs.Orders.{order}
use Rattle.spur_heap.specs.Words.{AreSound, is_good}
use Rattle.spur_heap.proofs.Following.{own_good}

-- a word that names a start
pub word_named : (w s : ℕ) → heap_to w ≡ Some s → (w ≡ 8 * s) × (w / 8 ≡ s)
word_named w s e = elim (cases_eq (w % 8) 0) [
  | inr n ↦ let none : heap_to w ≡ None = ap (λ b. cond b (Some (w / 8)) None) (ne_eqb (w % 8) 0 n) in absurd cc
  | inl z ↦
      let some : heap_to w ≡ Some (w / 8) = ap (λ b. cond b (Some (w / 8)) None) (eq-eqb (w % 8) 0 z) in
      let same : w / 8 ≡ s = ap (λ o. unwrap_or o 0) (sym some ∙ e) in
      (omega (arith, z, same), same)
]

-- a word of the page of an index
pub record HasEntry (v : View) (index : ℕ) : Type 0 where
  pub page : has_page (store_of v) index ≡ true
  pub word : entry (store_of v) index ≡ get_or v.words (root_slot (store_of v) (index / page_entries) / 8 + 1 + index % page_entries) 0
  pub inside : root_slot (store_of v) (index / page_entries) / 8 + 1 + index % page_entries < length v.words
  pub good : is_good v (entry (store_of v) index) ≡ true

module _ (v : View) (k : AreSound v) where
  pub outer_ordinary : (j : ℕ) → j < 3 → is_ordinary (store_of v) (first (store_of v) j) ≡ true
  outer_ordinary j l = λ i. k.sound.roots.objects j (omega (arith, l)) i && not (k.sound.roots.outer j l i)

  pub outer_good : (j : ℕ) → j < 3 → is_good v (word_of (first (store_of v) j)) ≡ true
  outer_good j l = or_right (is_immediate_word (word_of (first (store_of v) j))) (is_good_reference (store_of v) (word_of (first (store_of v) j))) (own_good v (first (store_of v) j) (outer_ordinary j l))

  pub root_place : (i : ℕ) → i < roots_slots → (first (store_of v) 4 + 1 + i < length v.words) × (root_slot (store_of v) i ≡ get_or v.words (first (store_of v) 4 + 1 + i) 0)
  root_place i l =
      let there = k.sound.roots.objects 4 (omega arith) in
      let long : i < length (body_at (store_of v) (first (store_of v) 4)).words = omega (arith, l, k.sound.roots.roots.1) in
      (object-inside _ v.words _ (order v k) (first (store_of v) 4) there i long, object-word _ v.words _ (order v k) (first (store_of v) 4) there i long)

  pub no_page : (index : ℕ) → root_slot (store_of v) (index / page_entries) ≡ word_of (first (store_of v) 0) → has_page (store_of v) index ≡ false
  no_page index e =
      let h : Store = store_of v in
      let named : heap_to (root_slot h (index / page_entries)) ≡ Some (first h 0) = ap heap_to e ∙ heap-named (first h 0) in
      let nil : is_nil_slot h (index / page_entries) ≡ true = ap (is_at (first h 0)) named ∙ eq-eqb (first h 0) (first h 0) refl in
      and_right (ltb index class_limit) (not (is_nil_slot h (index / page_entries))) (ap not nil)

  -- behind the last page there is none
  pub past_pages : (index : ℕ) → page_places ≤ index / page_entries → has_page (store_of v) index ≡ false
  past_pages index far = and_left (ltb index class_limit) (not (is_nil_slot (store_of v) (index / page_entries))) (le-ltb index class_limit (omega (arith, far)))

  -- an entry leads to an ordinary object
  entry_good : (index : ℕ) → has_page (store_of v) index ≡ true → is_good_reference (store_of v) (entry (store_of v) index) ≡ true
  entry_good i e =
      let h : Store = store_of v in
      let test = λ (s : ℕ). eqb s (first h 0) || (not (eqb i 0) && is_entered h s) in
      let on : passes test (lead h (entry h i)) ≡ true = not-false _ (sym (ap (λ b. b && not (passes test (lead h (entry h i)))) e) ∙ k.sound.roots.entries i) in
      let p = passed test (lead h (entry h i)) on in
      let ordinary : is_ordinary h p.one ≡ true = elim (or_cases (eqb p.one (first h 0)) (not (eqb i 0) && is_entered h p.one) p.holds) [
        | inl nil ↦ ap (is_ordinary h) (eqb-true p.one (first h 0) nil) ∙ outer_ordinary 0 (omega arith)
        | inr class ↦ entered_ordinary h p.one (and_parts (not (eqb i 0)) (is_entered h p.one) class).1
      ] in
      ap (passes (is_ordinary h)) p.is ∙ ordinary

  pub an_entry : (index : ℕ) → index < class_limit → root_slot (store_of v) (index / page_entries) ≢ word_of (first (store_of v) 0) → HasEntry v index
  an_entry index l n =
      let h : Store = store_of v in
      let i : ℕ = index / page_entries in
      let place = place_below index l in
      let no_nil : is_nil_slot h i ≡ false = false_from_ne_true _ (λ on. n (word_named (root_slot h i) (first h 0) (at-named (first h 0) (h.to (root_slot h i)) on)).0) in
      let page : is_page h i ≡ true = not-false _ (sym (ap (λ b. not b && not (is_page h i)) no_nil) ∙ k.sound.roots.pages i place) in
      let p = a_page h i page in
      let s : ℕ = p.0 in
      let body = and_parts (eqb (body_at h s).format 2) (eqb (length (body_at h s).words) page_entries) p.1.body in
      let long : length (body_at h s).words ≡ page_entries = eqb-true _ _ body.1 in
      let low : index % page_entries < length (body_at h s).words = omega (arith, long) in
      let is : root_slot h i / 8 ≡ s = (word_named (root_slot h i) s p.1.named).1 in
      let has : has_page h index ≡ true = λ x. lt-ltb index class_limit l x && not (no_nil x) in
      record {
        page = has;
        word = ap (λ o. get_or (body_at h (unwrap_or o h.names)).words (index % page_entries) 0) p.1.named ∙ object-word _ v.words _ (order v k) s p.1.there (index % page_entries) low ∙ ap (λ t. get_or v.words (t + 1 + index % page_entries) 0) (sym is);
        inside = let far = object-inside _ v.words _ (order v k) s p.1.there (index % page_entries) low in omega (arith, far, is);
        good = or_right (is_immediate_word (entry h index)) (is_good_reference h (entry h index)) (entry_good index has);
      }
