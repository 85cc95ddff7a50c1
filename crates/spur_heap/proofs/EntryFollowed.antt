-- An entry of the class table, and the word to which its word is followed.
use Rattle.std.proofs.Common.{◌≡◌, ℕ, true, ◌+◌, ◌%◌, ◌<◌, length, get_or, sym, ap, ◌∙◌, subst, arith}
use Rattle.std.proofs.lemmas.Bool.{false≢true}
use Rattle.spur_graph.specs.Cells.{lead}
use Rattle.spur_graph.specs.Ordinary.{class_limit, page_entries, page_of, entry}
use Rattle.spur_graph.specs.Heaps.{View, store_of, heap_value}
use Rattle.heap_cells.proofs.Bodies.{all_pointers}
use Rattle.heap_cells.proofs.CellKinds.{there_is, there_starts}
use Rattle.spur_heap.specs.Words.{AreSound, starts_at, body_in, is_good}
use Rattle.spur_heap.specs.Views.{follows}
use Rattle.spur_heap.specs.Entering.{HasPage}
use Rattle.spur_heap.specs.Following.{IsFollowed, IsFollowedEntry}
use Rattle.spur_heap.proofs.Pages.{HasEntry, no_page, an_entry}
use Rattle.spur_heap.proofs.PageAt.{has, page_start, at_page, page_is, page_apart, page_read, page_format, page_long}
use Rattle.spur_heap.proofs.SlotAlike.{Another}
use Rattle.spur_heap.proofs.FollowedWords.{Settles, settles}

module _ (v : View) (k : AreSound v) (index : ℕ) (below : index < class_limit) (paged : HasPage v index) where
  -- the start of its page
  abbrev pub start : ℕ
  start = page_start v k index below paged

  pub start_starts : starts_at v start ≡ true
  start_starts = there_starts ((store_of v).cell start) (at_page v k index below paged).there

  the_entry : HasEntry v index
  the_entry = an_entry v k index below (λ e. false≢true (sym (no_page v k index e) ∙ has v k index below paged))

  pub entry_inside : start + 1 + index % page_entries < length v.words
  entry_inside = let far = the_entry.inside in let at = page_read v k index below paged in omega (arith, far, at)

  pub entry_read : entry (store_of v) index ≡ get_or v.words (start + 1 + index % page_entries) 0
  entry_read = the_entry.word ∙ ap (λ s. get_or v.words (s + 1 + index % page_entries) 0) (page_read v k index below paged)

  pub entry_good : is_good v (entry (store_of v) index) ≡ true
  entry_good = the_entry.good

  -- it is a slot of the page
  pub page_there : page_of (store_of v) index ≡ start
  page_there = page_is v k index below paged

  entry_slot : entry (store_of v) index ≡ get_or (body_in v start).words (index % page_entries) 0
  entry_slot = ap (λ p. get_or (body_in v p).words (index % page_entries) 0) page_there

  module _ (result : ℕ) (is : follows v (entry (store_of v) index) result) where
    entry_settles : Settles v (entry (store_of v) index) result
    entry_settles = settles v k (entry (store_of v) index) result entry_good is

    pub another : Another (store_of v) start (index % page_entries) result (body_in v start)
    another = record {
      sound = k.sound;
      there = there_is ((store_of v).cell start) (at_page v k index below paged).there;
      roots = page_apart v k index below paged;
      low =
          let format = page_format v k index below paged in
          let all = all_pointers (body_in v start) (omega (arith, format)) in
          let long = page_long v k index below paged in
          omega (arith, all, long);
      literals = λ l. let format = page_format v k index below paged in absurd (omega (arith, l, format));
      good = entry_settles.good;
      leads = entry_settles.leads ∙ ap (lead (store_of v)) entry_slot;
      value = entry_settles.value ∙ ap (heap_value v) entry_slot;
    }

    pub entry_result : IsFollowed v result
    entry_result = entry_settles.followed

    -- the entry is followed already
    pub entry_stays : result ≡ entry (store_of v) index → IsFollowedEntry v index
    entry_stays same = subst (IsFollowed v) same entry_settles.followed
