-- No cause of refusal but `large` applies to a saved file.
use Rattle.std.proofs.Common.{◌≡◌, ◌≢◌, ℕ, suc, zero, true, not, ◌||◌, eqb, ◌+◌, ◌%◌, List, ◌<◌, take, length, refl, sym, ap, ◌∙◌, subst, inl, inr, arith}
use Rattle.std.proofs.lemmas.Bool.{false≢true}
use Rattle.spur_graph.specs.declared.limits.Limits.{Limits}
use Rattle.spur_graph.specs.Segments.{Segment, segment, segments, begin, is_good, is_last, most_segments, total_words, all_words}
use Rattle.spur_graph.specs.Ordinary.{is_good_reference}
use Rattle.spur_graph.specs.FileStores.{file_store}
use Rattle.spur_graph.specs.ImageFile.{special_word}
use Rattle.spur_graph.specs.ImageCauses.{Row, NoHeader, OtherFormat, OtherHeader, BadBase, TooLarge, NoHeap, BadSegment, BadObject, BadRoot, BadForwarder, BadPage, BadEntry, BadSlot, BadSpecial, Bad, Comes, IsBadLink, behind, image_store}
use Rattle.spur_graph.specs.Places.{IsBadObject, IsBadRoot}
use Rattle.spur_graph.specs.Heaps.{View, IsWhole, store_of}
use Rattle.heap_cells.specs.Settled.{IsLoadable}
use Rattle.heap_cells.proofs.LoadableReads.{loadable-read, loadable-roots}
use Rattle.heap_cells.proofs.References.{not_immediate}
use Rattle.heap_laws.proofs.Words.{good-placed}
use Rattle.heap_laws.proofs.Heaps.{placed_is_loadable}
use Rattle.spur_heap.proofs.Hops.{reference_named}
use Rattle.image_save.specs.Saved.{saved_text, saved_value, saved_words, file_place, has_object}
use Rattle.image_save.specs.Denotes.{IsRead, HasWords, saved_store}
use Rattle.spur_heap.proofs.Puts.{whole_sound}
use Rattle.image_save.proofs.Reading.{saved_is_read, first_is, good, last}
use Rattle.image_save.proofs.Moves.{words_long}
use Rattle.image_save.proofs.Placed.{to_file, chunks_cut, store_placed, special_placed}

module _ (v : View) (whole : IsWhole v) (all : HasWords v) where
  abbrev text : List ℕ
  text = saved_text v

  abbrev W : List ℕ
  W = saved_words v

  r : IsRead v
  r = saved_is_read v whole all

  pub store_is : image_store text ≡ saved_store v
  store_is = λ i. file_store (r.segments_are i) (r.words_are i)

  saved_loads : IsLoadable (saved_store v)
  saved_loads = placed_is_loadable (file_place v) (has_object v) (store_of v) (saved_store v) (store_placed v whole)

  loads : IsLoadable (image_store text)
  loads = subst IsLoadable (sym store_is) saved_loads

  -- the one segment is good, and the last
  links : (i : ℕ) → Comes text i → IsBadLink text i → ⊥
  links zero comes bad =
      let first = first_is v whole all in
      let good' : is_good text (segment text 0) ≡ true = ap (is_good text) first ∙ good v whole all in
      let none : behind text 0 ≡ 0 = let heap = r.heap_is in let size = ap (λ (s : Segment). s.size) first in let at = ap (λ (s : Segment). s.at) first in omega (arith, heap, size, at) in
      elim bad [
        | inl off ↦ false≢true (sym (ap (λ b. eqb 0 most_segments || not b) good') ∙ off)
        | inr end ↦ end.1 none
      ]
  links (suc i) comes bad = false≢true (sym (comes 0 (omega arith)).1 ∙ ap (is_last text) (first_is v whole all) ∙ last v whole all)

  -- no chunk of it is refused
  objects_read : (i n : ℕ) → i < length (segments text) → IsBadObject (all_words text) (begin text i) (begin text (i + 1)) n → ⊥
  objects_read zero n l bad =
      let end : begin text (zero + 1) ≡ length W = let a = ap (λ segs. total_words (take 1 segs)) r.segments_are in let b = words_long v whole in omega (arith, a, b) in
      loadable-read (to_file v) W (chunks_cut v whole) saved_loads n (subst (λ e. IsBadObject W 0 e n) end (subst (λ ws. IsBadObject ws 0 (begin text (zero + 1)) n) r.words_are bad))
  objects_read (suc i) n l bad = let one = ap length r.segments_are in absurd (omega (arith, l, one))

  five_stand : (n : ℕ) → IsBadRoot (all_words text) 0 (length (all_words text)) n → ⊥
  five_stand n bad = loadable-roots (to_file v) W (chunks_cut v whole) saved_loads n (subst (λ ws. IsBadRoot ws 0 (length ws) n) r.words_are bad)

  special_good : is_good_reference (image_store text) (special_word text) ≡ true
  special_good =
      let reference = not_immediate v.special (reference_named v (whole_sound v whole) v.special whole.special_there).aligned in
      (λ i. is_good_reference (store_is i) (r.special_is i)) ∙ good-placed (store_placed v whole) v.special (saved_value v v.special) reference (special_placed v whole)

  pub accepted : (limits : Limits) (row : Row) (n : ℕ) → row ≢ TooLarge → Bad text limits row n → ⊥
  accepted limits NoHeader n other bad = let long = r.long in absurd (omega (arith, long, bad))
  accepted limits OtherFormat n other bad = bad r.spur
  accepted limits OtherHeader n other bad = bad r.size
  accepted limits BadBase n other bad = elim bad [
    | inl off ↦ off (ap (λ a. a % 8) r.base_is ∙ whole.header.aligned)
    | inr high ↦ let low = whole.header.low in let is = r.base_is in absurd (omega (arith, high, low, is))
  ]
  accepted limits TooLarge n other bad = absurd (other refl)
  accepted limits NoHeap n other bad = let long = r.long in let heap = r.heap_is in absurd (omega (arith, long, heap, bad))
  accepted limits BadSegment n other bad = links n bad.0 bad.1
  accepted limits BadObject n other bad = objects_read bad.0 n bad.1 bad.2
  accepted limits BadRoot n other bad = five_stand n bad
  accepted limits BadForwarder n other bad = false≢true (sym (loads.ends bad.0) ∙ bad.2)
  accepted limits BadPage n other bad = false≢true (sym (loads.pages n bad.0) ∙ bad.1)
  accepted limits BadEntry n other bad = false≢true (sym (loads.entries n) ∙ bad)
  accepted limits BadSlot n other bad = false≢true (sym (loads.slots bad.0 bad.1 bad.3) ∙ bad.4)
  accepted limits BadSpecial n other bad = false≢true (sym bad ∙ special_good)
