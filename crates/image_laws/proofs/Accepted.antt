-- The graph of an accepted image is closed.
use Rattle.std.proofs.Common.{◌≡◌, ℕ, true, ◌+◌, ◌*◌, ◌%◌, ◌^◌, ◌<◌, cond, ◌-◌, List, [], ◌∷◌, length, refl, sym, ap, ◌∙◌, arith, inl, inr, Some, None}
use Rattle.std.proofs.lemmas.Bool.{cases_Bool, cases_lt, lt-ltb, le-ltb}
use Rattle.std.proofs.lemmas.List.Elements.{All-contains}
use Rattle.std.specs.FinMap.{get, empty, get-empty}
use Rattle.spur_graph.specs.declared.limits.Limits.{Limits}
use Rattle.spur_graph.specs.declared.answer.Value.{Value}
use Rattle.spur_graph.specs.ImageFile.{special_word, last_hash}
use Rattle.spur_graph.specs.Graph.{Handle, handle_cmp}
use Rattle.spur_graph.specs.Segments.{Segment, word_count, total_words, word_in, address_in, end_of, greatest_end, segments, all_words}
use Rattle.object_header.specs.Chunks.{Cuts, chunks}
use Rattle.spur_graph.specs.Cells.{Store}
use Rattle.spur_graph.specs.Places.{place, is_bad_root, IsBadRoot}
use Rattle.spur_graph.specs.Ordinary.{is_good_reference, is_bad_page, is_bad_entry, is_bad_slot}
use Rattle.spur_graph.specs.ImageCauses.{IsAccepted, BadBase, TooLarge, NoHeap, BadObject, BadRoot, BadForwarder, BadPage, BadEntry, BadSlot, BadSpecial, image_store}
use Rattle.spur_graph.specs.LoadedGraph.{file_name, past_name}
use Rattle.heap_segments.specs.Rising.{IsRising}
use Rattle.heap_segments.proofs.Rising.{total-cons, address-cons}
use Rattle.heap_cells.specs.Rows.{AllRead}
use Rattle.heap_cells.specs.Settled.{IsLoadable, IsNamed}
use Rattle.heap_cells.specs.Closing.{IsHeld}
use Rattle.heap_cells.proofs.Cutting.{all-in_order}
use Rattle.heap_cells.proofs.Starts.{starts-rise}
use Rattle.heap_cells.proofs.Wholes.{place-is-start, place-is-end}
use Rattle.heap_cells.proofs.Internals.{outer}
use Rattle.heap_cells.proofs.Widths.{widths_in}
use Rattle.heap_cells.proofs.Closed.{loadable_is_closed}
use Rattle.image_checks.specs.Checks.{HasFive, IsCut}
use Rattle.image_checks.proofs.Placed.{GoodRoot, chunked, five}
use Rattle.image_checks.proofs.Segmented.{all-good}
use Rattle.image_laws.specs.Counted.{IsCounted}
use Rattle.image_laws.specs.Accepted.{AcceptedIsClosed}
use Rattle.image_laws.proofs.Counted.{rows_count}
use Rattle.image_laws.proofs.Named.{file_is_named, file_has_names}
use Rattle.image_laws.proofs.Rows.{none_is_lost}
use Rattle.image_laws.proofs.FileWords.{all_words_fit}

-- a chunk that is no bad root was read and can be one
good_root : (words : List ℕ) → Cuts words 0 (length words) (chunks words) → AllRead words 0 (length words) → ((n : ℕ) → IsBadRoot words 0 (length words) n → ⊥) → (k : ℕ) → k < 5 → GoodRoot words k
good_root words row read none k l = elim (cases_lt k (length (chunks words))) [
  | inr past ↦ absurd (none (place words 0 (length words) k) (record { k = k; first = l; is = refl; bad = inl (place-is-end words k read past) }))
  | inl low ↦
      let p = place-is-start words k read low in
      let at : ℕ = place words 0 (length words) k in
      let c = chunked words read k at p.head refl p.inside p.read in
      let fit = (starts-rise words (length words) (chunks words) (all-in_order words row)).fit (at + p.head.lead) c.stands in
      elim (cases_Bool (is_bad_root k p.head)) [
        | inl bad ↦ absurd (none at (record { k = k; first = l; is = refl; bad = inr (p.inside, (p.head, p.read, bad)) }))
        | inr good ↦ record { at = at; head = p.head; chunk = c; room = omega (arith, fit, c.told); good = good }
      ]
]

-- no segment ends past the greatest address
address_low : (segs : List Segment) (floor n : ℕ) → IsRising floor segs → n < total_words segs → address_in segs n < greatest_end
address_low [] floor n rising l = absurd (omega (arith, l))
address_low (s ∷ rest) floor n rising l = elim (cases_lt n (word_count s)) [
  | inl low ↦
      let is : address_in (s ∷ rest) n ≡ s.address + 8 * n = address-cons s rest n ∙ ap (λ b. cond b (s.address + 8 * n) (address_in rest (n - word_count s))) (lt-ltb n (word_count s) low) in
      omega (arith, is, low, rising.0.low)
  | inr high ↦
      let is : address_in (s ∷ rest) n ≡ address_in rest (n - word_count s) = address-cons s rest n ∙ ap (λ b. cond b (s.address + 8 * n) (address_in rest (n - word_count s))) (le-ltb n (word_count s) high) in
      let later = address_low rest (end_of s) (n - word_count s) rising.1 (omega (arith, total-cons s rest, l, high)) in
      omega (arith, is, later)
]

module _ (bytes : List ℕ) (limits : Limits) (accepted : IsAccepted bytes limits) where
  counted : IsCounted bytes limits
  counted = rows_count bytes limits (accepted BadBase) (accepted TooLarge) (accepted NoHeap)

  cut : IsCut (segments bytes) (all_words bytes) × AllRead (all_words bytes) 0 (length (all_words bytes))
  cut = all-good (segments bytes) (all_words bytes) counted.of (accepted BadObject)

  roots : HasFive (image_store bytes)
  roots = five (all_words bytes) cut.1 (good_root (all_words bytes) cut.0.cut cut.1 (accepted BadRoot)) (word_in (segments bytes) 0)

  accepted_is_loadable : IsLoadable (image_store bytes)
  accepted_is_loadable = record {
    formed = cut.0.formed;
    five = roots.five;
    objects = roots.objects;
    lists = roots.lists;
    roots = roots.roots;
    ends = none_is_lost (image_store bytes) (accepted BadForwarder);
    pages = λ i low. elim (cases_Bool (is_bad_page (image_store bytes) i)) [ inl on ↦ absurd (accepted BadPage i (low, on)) | inr off ↦ off ];
    entries = λ i. elim (cases_Bool (is_bad_entry (image_store bytes) i)) [ inl on ↦ absurd (accepted BadEntry i on) | inr off ↦ off ];
    slots = λ s i n. elim (cases_Bool (is_bad_slot (image_store bytes) s i)) [ inl on ↦ absurd (accepted BadSlot (s + 1 + i) (s, i, refl, n, on)) | inr off ↦ off ];
  }

  accepted_is_named : IsNamed (image_store bytes)
  accepted_is_named = file_is_named (segments bytes) (all_words bytes) counted.rising counted.of cut.0.cut

  special_there : is_good_reference (image_store bytes) (special_word bytes) ≡ true
  special_there = elim (cases_Bool (is_good_reference (image_store bytes) (special_word bytes))) [ inl on ↦ on | inr off ↦ absurd (accepted BadSpecial 0 off) ]

none_held : (name : ℕ → ℕ) (bytes : List ℕ) (k : Handle) (v : Value) → get (empty {X = Value} {R = handle_cmp}) k ≡ Some v → IsHeld name (image_store bytes) v
none_held name bytes k v e = absurd (let none : None ≡ Some v = sym (get-empty handle_cmp k) ∙ e in let f : ⊥ = cc in f)

pub accepted_is_closed : AcceptedIsClosed
accepted_is_closed bytes limits small accepted =
    let h : Store = image_store bytes in
    let segs : List Segment = segments bytes in
    let words : List ℕ = all_words bytes in
    let loadable : IsLoadable h = accepted_is_loadable bytes limits accepted in
    let named : IsNamed h = accepted_is_named bytes limits accepted in
    let n : IsCounted bytes limits = counted bytes limits accepted in
    let row : Cuts words 0 (length words) (chunks words) = (cut bytes limits accepted).0.cut in
    loadable_is_closed (file_name bytes) h (special_word bytes) empty (last_hash bytes % 2 ^ 32) (past_name bytes) (record {
      loadable = loadable;
      aligned = named.aligned;
      inside = named.inside;
      outer = outer named loadable;
      once = file_has_names segs words n.rising n.of row;
      widths = λ s e. widths_in (word_in segs 0) words (chunks words) s (all_words_fit bytes small);
      special_there = special_there bytes limits accepted;
      held = none_held (file_name bytes) bytes;
      state_bits = omega arith;
      fresh = λ s e. address_low segs 0 s n.rising (let below = All-contains (λ t. t < length words) h.starts s named.starts_below (named.inside s e) in omega (arith, below, n.of));
    })
