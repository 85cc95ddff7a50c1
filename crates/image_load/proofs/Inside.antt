-- The places that are told are among the words.
use Rattle.std.proofs.Common.{◌≡◌, ℕ, true, false, not, ◌&&◌, ◌+◌, ◌/◌, ◌<◌, ◌≤◌, ltb, List, length, get_or, sym, ap, ◌∙◌, arith, refl, inl, inr, Some, None, Option}
use Rattle.std.proofs.lemmas.Bool.{false≢true, cases_Bool, and_parts, ltb-true, not-true}
use Rattle.spur_graph.specs.Segments.{Segment, word_in}
use Rattle.object_header.specs.Chunks.{chunks}
use Rattle.spur_graph.specs.Cells.{Store, final, is_moved, is_there, pointer_count}
use Rattle.spur_graph.specs.Ordinary.{page_places, page_entries, class_limit, body_at, root_slot, is_nil_slot, is_ordinary, is_good_word, is_bad_page, is_bad_entry, has_page, page_of}
use Rattle.image_checks.specs.Checks.{IsCut, IsLost, IsBadPlace, HasOrdinary}
use Rattle.image_words.specs.declared.image.Roots.{Roots}
use Rattle.image_words.specs.References.{IsBadPointer}
use Rattle.spur_graph.specs.FileStores.{file_store}
use Rattle.image_checks.specs.Checked.{IsChecked, AreFirst, HasPages, IsPaged}
use Rattle.heap_cells.proofs.Cutting.{all-in_order}
use Rattle.heap_cells.proofs.CellKinds.{moved_starts}
use Rattle.heap_cells.proofs.Starts.{start-read}
use Rattle.std.specs.Option.{unwrap_or}
use Rattle.heap_walk.specs.Starts.{has_start, covered}
use Rattle.image_words.specs.declared.image.ImageWords.{ImageWords}
use Rattle.image_checks.proofs.AtStarts.{checked_leads, checked_image}
use Rattle.image_checks.proofs.Objects.{root_word, stands_ordinary, fit_ordinary}
use Rattle.image_checks.proofs.Paging.{unnamed_bad}
use Rattle.image_checks.proofs.ClassEntries.{page_here, page_end}

pub no_bad_pages : (h : Store) → ((i : ℕ) → IsBadPlace h i → ⊥) → HasPages h
no_bad_pages h none i low = elim (cases_Bool (is_bad_page h i)) [ inl on ↦ absurd (none i (low, on)) | inr off ↦ off ]

-- checked words whose hidden roots name pages
pub paged : (image : ImageWords) (words : List ℕ) → IsChecked image.map.now words image.starts.now → AreFirst (file_store image.map.now words) image.roots → covered image.ordinary.now ≡ length words
    → HasOrdinary (file_store image.map.now words) (has_start image.ordinary.now) → ((i : ℕ) → IsBadPlace (file_store image.map.now words) i → ⊥) → IsPaged image words
paged image words k first covers has none = record {
  cut = k.cut;
  maps = checked_image image k covers has first.are;
  leads = checked_leads k;
  five = first.roots;
  pages = no_bad_pages (file_store image.map.now words) none;
}

-- the page that a place of the hidden roots names, in so many words
pub record IsPageAt (h : Store) (words place : ℕ) : Type 0 where
  pub start : ℕ
  pub named : h.to (root_slot h place) ≡ Some start
  pub end : start + 1 + page_entries ≤ words
  pub low : place < page_places

module _ {segs : List Segment} {words : List ℕ} (k : IsCut segs words) where
  pub lost_inside : (n : ℕ) → IsLost (file_store segs words) n → n ≤ length words
  lost_inside n (s, is, bad) =
      let h = file_store segs words in
      let moved = (and_parts (is_moved (h.cell s)) (not (is_there (h.cell (final h s)))) bad).0 in
      let at = start-read (word_in segs 0) words (length words) (chunks words) s (all-in_order words k.cut) (moved_starts (h.cell s) moved) in
      omega (arith, at.below, is)

  pub pointer_inside : (n : ℕ) → IsBadPointer (file_store segs words) n → n ≤ length words
  pointer_inside n (s, i, is, format, bad) =
      let h = file_store segs words in
      let parts = and_parts (is_ordinary h s && ltb i (pointer_count (body_at h s))) (not (is_good_word h (get_or (body_at h s).words i 0))) bad in
      let front = and_parts (is_ordinary h s) (ltb i (pointer_count (body_at h s))) parts.0 in
      let below = ltb-true i (pointer_count (body_at h s)) front.1 in
      let at = stands_ordinary k s front.0 in
      let fit = fit_ordinary k s front.0 in
      omega (arith, at.fits, is, below, fit)

  pub page_of_bad : (i : ℕ) → HasPages (file_store segs words) → is_bad_entry (file_store segs words) i ≡ true → IsPageAt (file_store segs words) (length words) (i / page_entries)
  page_of_bad i pages bad =
      let h = file_store segs words in
      let parts = and_parts (has_page h i) _ bad in
      let front = and_parts (ltb i class_limit) (not (is_nil_slot h (i / page_entries))) parts.0 in
      let low : i / page_entries < page_places = omega (arith, ltb-true i class_limit front.0) in
      named_page (i / page_entries) low (h.to (root_slot h (i / page_entries))) refl (not-true _ front.1)
    where
      named_page : (place : ℕ) → place < page_places → (o : Option ℕ) → (file_store segs words).to (root_slot (file_store segs words) place) ≡ o → is_nil_slot (file_store segs words) place ≡ false
          → IsPageAt (file_store segs words) (length words) place
      named_page place low None is other = absurd (false≢true (sym (pages place low) ∙ unnamed_bad (file_store segs words) place is))
      named_page place low (Some s) is other = record { start = s; named = is; end = page_end k place s (page_here k place s pages low (other, is)); low = low }

  -- the page of an index is found by the word of the hidden roots
  pub entry_found : (roots : Roots) (i : ℕ) → AreFirst (file_store segs words) roots → HasPages (file_store segs words) → is_bad_entry (file_store segs words) i ≡ true
      → (to : Option ℕ) (start : ℕ) → to ≡ word_in segs 0 (get_or words (roots.hidden_roots + 1 + i / page_entries) 0) → start ≡ unwrap_or to (length words)
      → (start ≡ page_of (file_store segs words) i) × (start + 1 + page_entries ≤ length words)
  entry_found roots i f pages bad to start e is =
      let page = page_of_bad i pages bad in
      let word = root_word k f (i / page_entries) (omega (arith, page.low)) in
      let same : to ≡ word_in segs 0 (root_slot (file_store segs words) (i / page_entries)) = e ∙ ap (word_in segs 0) (sym word) in
      let at : start ≡ page.start = is ∙ ap (λ o. unwrap_or o (length words)) (same ∙ page.named) in
      (is ∙ ap (λ o. unwrap_or o (length words)) same, omega (arith, at, page.end))
