-- The page of a class index, where the class table has one.
use Rattle.std.proofs.Common.{◌≡◌, ◌≢◌, ℕ, true, false, not, ◌&&◌, ◌+◌, ◌/◌, ◌%◌, ◌<◌, eqb, length, sym, ap, ◌∙◌, arith}
use Rattle.std.proofs.lemmas.Bool.{and_parts, eqb-true, lt-ltb, not-false, not-true}
use Rattle.std.specs.Option.{unwrap_or}
use Rattle.spur_graph.specs.Cells.{Store, first}
use Rattle.spur_graph.specs.Ordinary.{class_limit, page_entries, page_places, is_page, is_nil_slot, root_slot, has_page, page_of, body_at}
use Rattle.spur_graph.specs.Heaps.{View, store_of}
use Rattle.heap_cells.proofs.Entries.{place_below}
use Rattle.heap_cells.proofs.ObjectReads.{object-inside}
use Rattle.heap_cells.proofs.Internals.{a_page, not_first, IsPageAt}
use Rattle.spur_heap.specs.Words.{AreSound}
use Rattle.spur_heap.specs.Entering.{HasPage}
use Rattle.spur_heap.proofs.Orders.{order}
use Rattle.spur_heap.proofs.Pages.{word_named}
use Rattle.spur_heap.proofs.ClassTable.{page_listed}

module _ (v : View) (k : AreSound v) (index : ℕ) (below : index < class_limit) (paged : HasPage v index) where
  abbrev h : Store
  h = store_of v

  abbrev i : ℕ
  i = index / page_entries

  place : i < page_places
  place = place_below index below

  some_page : is_nil_slot h i ≡ false
  some_page = not-true _ (sym (page_listed v k index i place) ∙ paged)

  pub has : has_page h index ≡ true
  has = λ x. lt-ltb index class_limit below x && not (some_page x)

  pub page : is_page h i ≡ true
  page = not-false _ (sym (ap (λ x. not x && not (is_page h i)) some_page) ∙ k.sound.roots.pages i place)

  -- the start of the page
  abbrev pub page_start : ℕ
  page_start = (a_page h i page).0

  pub at_page : IsPageAt h i page_start
  at_page = (a_page h i page).1

  pub page_is : page_of h index ≡ page_start
  page_is = ap (λ o. unwrap_or o h.names) at_page.named

  -- it is not the hidden roots
  pub page_apart : first h 4 ≢ page_start
  page_apart e = not_first h page_start 4 (omega arith) at_page.later (sym e)

  pub page_read : root_slot h i / 8 ≡ page_start
  page_read = (word_named (root_slot h i) page_start at_page.named).1

  page_body : (eqb (body_at h page_start).format 2 ≡ true) × (eqb (length (body_at h page_start).words) page_entries ≡ true)
  page_body = and_parts (eqb (body_at h page_start).format 2) (eqb (length (body_at h page_start).words) page_entries) at_page.body

  pub page_format : (body_at h page_start).format ≡ 2
  page_format = eqb-true (body_at h page_start).format 2 page_body.0

  pub page_long : length (body_at h page_start).words ≡ page_entries
  page_long = eqb-true (length (body_at h page_start).words) page_entries page_body.1

  -- its words hold the entry
  pub slot_inside : page_start + 1 + index % page_entries < length v.words
  slot_inside = object-inside _ v.words _ (order v k) page_start at_page.there (index % page_entries) (omega (arith, page_long))
