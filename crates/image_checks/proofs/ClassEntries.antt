-- The entries of the class table, where no place of the hidden roots is bad.
use Rattle.std.proofs.Common.{◌≡◌, ◌≢◌, ℕ, Bool, true, false, not, ◌&&◌, ◌||◌, ◌+◌, ◌*◌, ◌/◌, ◌%◌, ◌<◌, ◌≤◌, eqb, List, length, get_or, refl, sym, ap, ◌∙◌, arith, inl, inr, Option, Some, None}
use Rattle.std.proofs.lemmas.Bool.{false≢true, eqb-true, eq-eqb, and_parts, or_cases, lt-ltb, not-false, ne_eqb}
use Rattle.std.specs.Option.{unwrap_or}
use Rattle.spur_graph.specs.Segments.{Segment}
use Rattle.spur_graph.specs.Cells.{Store, is_there, first, lead, any_below}
use Rattle.spur_graph.specs.Ordinary.{page_places, page_entries, class_limit, is_at, passes, body_at, root_slot, tells, is_nil_slot, is_first, is_page_body, is_ordinary, has_page, page_of, entry, has_entry, is_no_index, is_entered, is_bad_entry}
use Rattle.heap_cells.proofs.Entries.{entered_ordinary}
use Rattle.image_words.proofs.Leading.{ordinary_lead}
use Rattle.image_checks.specs.Checks.{IsCut, HasFive}
use Rattle.spur_graph.specs.FileStores.{file_store}
use Rattle.image_checks.specs.Checked.{HasPages, HasPage, is_good_entry}
use Rattle.image_checks.proofs.AtStarts.{nil_ordinary, led_passes}
use Rattle.image_checks.proofs.Objects.{words_there, end_there}
use Rattle.image_checks.proofs.Paging.{unnamed_bad, page_test}

at-passes : (s : ℕ) (o : Option ℕ) → is_at s o ≡ passes (λ t. eqb t s) o
at-passes s None = refl
at-passes s (Some t) = refl

module _ {segs : List Segment} {words : List ℕ} (k : IsCut segs words) where
  -- whether the word of an entry is good, by the ordinary object to which it leads
  pub good_entry : (i word : ℕ) (o : Option ℕ) → HasFive (file_store segs words) → o ≡ ordinary_lead (file_store segs words) word
      → passes (λ s. eqb s (first (file_store segs words) 0) || (not (eqb i 0) && is_entered (file_store segs words) s)) o ≡ is_good_entry (file_store segs words) i word
  good_entry i word o f e =
      let h = file_store segs words in
      let only : (s : ℕ) → (eqb s (first h 0) || (not (eqb i 0) && is_entered h s)) ≡ true → is_ordinary h s ≡ true = λ s good. elim (or_cases (eqb s (first h 0)) (not (eqb i 0) && is_entered h s) good) [
        | inl nil ↦ ap (is_ordinary h) (eqb-true s (first h 0) nil) ∙ nil_ordinary k f
        | inr class ↦ entered_ordinary h s (and_parts (not (eqb i 0)) (is_entered h s) class).1
      ] in
      led_passes h word (λ s. eqb s (first h 0) || (not (eqb i 0) && is_entered h s)) o only e

  -- ---- pages

  -- the page that a place names
  pub record IsPageAt (i s : ℕ) : Type 0 where
    pub named : (file_store segs words).to (root_slot (file_store segs words) i) ≡ Some s
    pub other : is_nil_slot (file_store segs words) i ≡ false
    pub there : is_there ((file_store segs words).cell s) ≡ true
    pub full : length (body_at (file_store segs words) s).words ≡ page_entries

  pub page_found : (i s : ℕ) → HasPages (file_store segs words) → i < page_places → (file_store segs words).to (root_slot (file_store segs words) i) ≡ Some s → s ≢ first (file_store segs words) 0 → IsPageAt i s
  page_found i s pages l named other =
      let h = file_store segs words in
      let told = any_below (λ j. tells h j s) i in
      let good = not-false _ (sym (page_test h i s named other) ∙ pages i l) in
      let parts = and_parts (is_there (h.cell s) && is_page_body (body_at h s) && not (is_first h s)) (not told) good in
      let more = and_parts (is_there (h.cell s) && is_page_body (body_at h s)) (not (is_first h s)) parts.0 in
      let front = and_parts (is_there (h.cell s)) (is_page_body (body_at h s)) more.0 in
      let body = and_parts (eqb (body_at h s).format 2) (eqb (length (body_at h s).words) page_entries) front.1 in
      record {
        named = named;
        other = ap (is_at (first h 0)) named ∙ ne_eqb s (first h 0) other;
        there = front.0;
        full = eqb-true (length (body_at h s).words) page_entries body.1;
      }

  pub page_here : (i s : ℕ) → HasPages (file_store segs words) → i < page_places → HasPage (file_store segs words) i (Some s) → IsPageAt i s
  page_here i s pages l (other, named) =
      let h = file_store segs words in
      page_found i s pages l named (λ nil. false≢true (sym other ∙ ap (is_at (first h 0)) named ∙ eq-eqb s (first h 0) nil))

  pub no_page : (i : ℕ) → HasPages (file_store segs words) → i < page_places → (file_store segs words).to (root_slot (file_store segs words) i) ≡ None → HasPage (file_store segs words) i None
  no_page i pages l e = absurd (false≢true (sym (pages i l) ∙ unnamed_bad (file_store segs words) i e))

  pub page_end : (i s : ℕ) → IsPageAt i s → s + 1 + page_entries ≤ length words
  page_end i s p = omega (arith, end_there k s p.there, p.full)

  -- ---- entries

  pub paged : (i place s : ℕ) → IsPageAt place s → i / page_entries ≡ place → i < class_limit → has_page (file_store segs words) i ≡ true
  paged i place s p at low = λ x. lt-ltb i class_limit low x && not ((ap (is_nil_slot (file_store segs words)) at ∙ p.other) x)

  pub entry_word : (i place s : ℕ) → IsPageAt place s → i / page_entries ≡ place → entry (file_store segs words) i ≡ get_or words (s + 1 + i % page_entries) 0
  entry_word i place s p at =
      let h = file_store segs words in
      let page : page_of h i ≡ s = ap (λ j. unwrap_or (h.to (root_slot h j)) h.names) at ∙ ap (λ o. unwrap_or o h.names) p.named in
      let low : i % page_entries < page_entries = omega arith in
      ap (λ t. get_or (body_at h t).words (i % page_entries) 0) page ∙ words_there k s (i % page_entries) p.there (omega (arith, low, p.full))

  -- whether an entry leads to an ordinary object, by that to which its word leads
  pub entry_leads : (i s start : ℕ) (o : Option ℕ) → IsPageAt (i / page_entries) s → i < class_limit → is_ordinary (file_store segs words) start ≡ true
      → o ≡ ordinary_lead (file_store segs words) (get_or words (s + 1 + i % page_entries) 0) → is_at start o ≡ has_entry (file_store segs words) i start
  entry_leads i s start o p low on e =
      let h = file_store segs words in
      let only : (t : ℕ) → eqb t start ≡ true → is_ordinary h t ≡ true = λ t same. ap (is_ordinary h) (eqb-true t start same) ∙ on in
      let word = get_or words (s + 1 + i % page_entries) 0 in
      at-passes start o ∙ led_passes h word (λ t. eqb t start) o only e ∙ sym (at-passes start (lead h word))
      ∙ sym (λ x. paged i (i / page_entries) s p refl low x && is_at start (lead h (entry_word i (i / page_entries) s p refl x)))

  -- an entry is bad where its word is not good
  pub bad_entry : (place s e : ℕ) (b : Bool) → IsPageAt place s → place < page_places → e < page_entries
      → b ≡ is_good_entry (file_store segs words) (place * page_entries + e) (get_or words (s + 1 + e) 0) → is_bad_entry (file_store segs words) (place * page_entries + e) ≡ not b
  bad_entry place s e b p l m is =
      let h = file_store segs words in
      let i : ℕ = place * page_entries + e in
      let at : i / page_entries ≡ place = omega (arith, m) in
      let rest : i % page_entries ≡ e = omega (arith, m) in
      let low : i < class_limit = omega (arith, l, m) in
      let word : entry h i ≡ get_or words (s + 1 + e) 0 = entry_word i place s p at ∙ ap (λ n. get_or words (s + 1 + n) 0) rest in
      (λ x. paged i place s p at low x && not (is_good_entry h i (word x))) ∙ ap not (sym is)

-- an entered class, where the hash is one of a class
pub entered_by : (h : Store) (s hash : ℕ) (b : Bool) → is_ordinary h s ≡ true → (body_at h s).hash ≡ hash → is_no_index hash ≡ false → b ≡ has_entry h hash s → b ≡ is_entered h s
unfolding is_entered
entered_by h s hash b on e index is = is ∙ sym ((λ x. on x && not (is_no_index (e x)) && has_entry h (e x) s) ∙ ap (λ c. not c && has_entry h hash s) index)

pub entered_not : (h : Store) (s hash : ℕ) → is_ordinary h s ≡ true → (body_at h s).hash ≡ hash → is_no_index hash ≡ true → false ≡ is_entered h s
unfolding is_entered
entered_not h s hash on e index = sym ((λ x. on x && not (is_no_index (e x)) && has_entry h (e x) s) ∙ ap (λ c. not c && has_entry h hash s) index)
