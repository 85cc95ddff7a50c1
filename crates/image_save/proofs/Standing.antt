-- Each object of a heap stands in its file: with its fields, as many words, and each slot followed.
use Rattle.std.proofs.Common.{◌≡◌, ◌≢◌, ℕ, true, false, cond, ◌||◌, ltb, ◌+◌, ◌*◌, ◌/◌, ◌%◌, ◌<◌, ◌≤◌, drop, length, get_or, sym, ap, ◌∙◌, subst, inl, inr, arith, Option, Some, length-drop}
use Rattle.std.specs.Option.{option_map, unwrap_or}
use Rattle.std.proofs.lemmas.Bool.{false≢true, eq-eqb, ne_eqb, lt-ltb, le-ltb, or_cases}
use Rattle.std.proofs.lemmas.List.{get_or-drop, ext_get_or}
use Rattle.object_header.specs.Fields.{fields_of}
use Rattle.object_header.specs.Head.{class_of}
use Rattle.object_header.specs.Chunks.{Chunk}
use Rattle.spur_graph.specs.Value.{is_immediate_word}
use Rattle.spur_graph.specs.ImageFile.{base}
use Rattle.spur_graph.specs.Cells.{Body, Store, is_there, first, final, lead, pointer_count}
use Rattle.spur_graph.specs.Ordinary.{body_at, is_good_reference}
use Rattle.spur_graph.specs.Heaps.{View, IsWhole, store_of, heap_to, chunks_of}
use Rattle.heap_cells.proofs.Members.{In}
use Rattle.heap_cells.proofs.Chains.{final-end}
use Rattle.heap_cells.proofs.References.{ordinary_there, immediate_tag}
use Rattle.heap_cells.proofs.Bodies.{pointers_fit}
use Rattle.heap_cells.proofs.Cutting.{stands, shape}
use Rattle.heap_cells.proofs.ObjectReads.{object-word, object-slots, object-body}
use Rattle.spur_heap.proofs.Orders.{order}
use Rattle.spur_heap.proofs.Hops.{reference_named}
use Rattle.heap_laws.specs.Placed.{IsPlacedWord, IsPlacedObject, goal}
use Rattle.image_save.specs.Saved.{saved_value, saved_slot, saved_chunks, saved_words, file_place, file_words, has_object, value_count}
use Rattle.spur_heap.proofs.Puts.{whole_sound}
use Rattle.image_save.proofs.Parts.{seen}
use Rattle.image_save.proofs.Values.{slot_good}
use Rattle.image_save.proofs.SavedHeaders.{header_keeps, header_class}
use Rattle.image_save.proofs.Moves.{header_word, object_place}
use Rattle.image_save.proofs.Objects.{placed, new, new_order, there_placed, none_moved, slots_told, slot_word}

-- how the words of the file name its places
pub record NamesPlaces (v : View) (to : ℕ → Option ℕ) : Type 0 where
  pub named : (s : ℕ) → s < file_words v → to (base v.carried + 8 * s) ≡ Some s
  pub aligned : (w s : ℕ) → to w ≡ Some s → w % 8 ≡ 0

module _ (v : View) (whole : IsWhole v) (to : ℕ → Option ℕ) (names : NamesPlaces v to) where
  abbrev h : Store
  h = store_of v

  abbrev g : Store
  g = new v whole to

  abbrev p : ℕ → ℕ
  p = file_place v

  -- ---- words

  pub value_is : (w : ℕ) → w % 8 ≡ 0 → saved_value v w ≡ base v.carried + 8 * p (final h (w / 8))
  unfolding saved_value
  value_is w z = ap (λ b. cond b (base v.carried + 8 * p (final h (w / 8))) w) (eq-eqb (w % 8) 0 z)

  value_stays : (w : ℕ) → w % 8 ≢ 0 → saved_value v w ≡ w
  unfolding saved_value
  value_stays w n = ap (λ b. cond b (base v.carried + 8 * p (final h (w / 8))) w) (ne_eqb (w % 8) 0 n)

  -- a good reference leads to the place of its object
  reference_leads : (w : ℕ) → is_good_reference h w ≡ true → (lead g (saved_value v w) ≡ Some (p (goal h w))) × (is_there (h.cell (goal h w)) ≡ true)
  reference_leads w good =
      let k = reference_named v (whole_sound v whole) w good in
      let t : ℕ = final h (w / 8) in
      let there : is_there (h.cell t) ≡ true = ordinary_there h t k.ordinary in
      let goal_is : goal h w ≡ t = ap (λ b. cond b (unwrap_or (lead h w) (first h 0)) (first h 0)) good ∙ ap (λ o. unwrap_or o (first h 0)) k.leads in
      let is : lead g (saved_value v w) ≡ Some (p t) =
      ap (λ u. option_map (final g) (to u)) (value_is w k.aligned) ∙ ap (option_map (final g)) (names.named (p t) (object_place v whole t there)) ∙ ap (λ s. Some s) (final-end g (p t) (none_moved v whole to (p t))) in
      (is ∙ ap (λ s. Some (p s)) (sym goal_is), ap (λ s. is_there (h.cell s)) goal_is ∙ there)

  pub placed_word : (w : ℕ) → (is_immediate_word w || is_good_reference h w) ≡ true → IsPlacedWord p (has_object v) h g w (saved_value v w)
  placed_word w good = record {
    same = λ on. value_stays w (immediate_tag w on);
    leads = λ off. (reference_leads w (reference off)).0;
    kept = λ off. (reference_leads w (reference off)).1;
  }
    where
      reference : is_immediate_word w ≡ false → is_good_reference h w ≡ true
      reference off = elim (or_cases (is_immediate_word w) (is_good_reference h w) good) [ inl on ↦ absurd (false≢true (sym off ∙ on)) | inr r ↦ r ]

  -- ---- the object of a chunk that is saved

  module _ (c : Chunk) (m : In (saved_chunks v) c) (on : has_object v c.start ≡ true) where
    abbrev b : Body
    b = body_at h c.start

    abbrev b' : Body
    b' = body_at g (p c.start)

    there' : is_there (g.cell (p c.start)) ≡ true
    there' = there_placed v whole to c m on

    pub slots_same : length b.words ≡ c.slots
    slots_same =
        let o = order v (whole_sound v whole) in
        let s = seen v whole c m in
        object-slots heap_to v.words (chunks_of v) o c.start on ∙ (shape v.words c (stands v.words 0 (length v.words) (chunks_of v) c o s.in_heap).chunk).slots

    word_same : (i : ℕ) → i < c.slots → get_or b.words i 0 ≡ get_or v.words (c.start + 1 + i) 0
    word_same i l = object-word heap_to v.words (chunks_of v) (order v (whole_sound v whole)) c.start on i (omega (arith, l, slots_same))

    slots_saved : length b'.words ≡ c.slots
    slots_saved = object-slots to (saved_words v) (placed v whole to) (new_order v whole to) (p c.start) there' ∙ slots_told v whole to c m on

    slot_saved : (i : ℕ) → i < c.slots → get_or b'.words i 0 ≡ saved_slot v c.start i
    slot_saved i l = object-word to (saved_words v) (placed v whole to) (new_order v whole to) (p c.start) there' i (omega (arith, l, slots_saved)) ∙ slot_word v whole to c m on i l

    head_same : b' ≡ record b { words = b'.words }
    head_same =
        let w : ℕ = get_or v.words c.start 0 in
        let keeps = header_keeps w in
        let old = object-body heap_to v.words (chunks_of v) (order v (whole_sound v whole)) c.start on in
        let header = header_word v whole c m on in
        let is = object-body to (saved_words v) (placed v whole to) (new_order v whole to) (p c.start) there' in
        let class : class_of (get_or (saved_words v) (p c.start) 0) ≡ class_of w = ap class_of header ∙ header_class w in
        (λ i. record {
          class = (ap (λ (d : Body). d.class) is ∙ class ∙ sym (ap (λ (d : Body). d.class) old)) i;
          hash = (ap (λ (d : Body). d.hash) is ∙ ap (λ n. (fields_of n).hash) header ∙ keeps.hash ∙ sym (ap (λ (d : Body). d.hash) old)) i;
          format = (ap (λ (d : Body). d.format) is ∙ ap (λ n. (fields_of n).format) header ∙ keeps.format ∙ sym (ap (λ (d : Body). d.format) old)) i;
          pinned = (ap (λ (d : Body). d.pinned) is ∙ ap (λ n. (fields_of n).pinned) header ∙ keeps.pinned ∙ sym (ap (λ (d : Body). d.pinned) old)) i;
          readonly = (ap (λ (d : Body). d.readonly) is ∙ ap (λ n. (fields_of n).readonly) header ∙ keeps.readonly ∙ sym (ap (λ (d : Body). d.readonly) old)) i;
          words = b'.words;
        })

    module _ (other : c.start ≢ first h 3) where
      -- the tests of `saved_slot`, one after the other
      tested : (i : ℕ) → i < c.slots → get_or b'.words i 0 ≡ cond (ltb i (pointer_count b)) (saved_value v (get_or v.words (c.start + 1 + i) 0)) (get_or v.words (c.start + 1 + i) 0)
      unfolding saved_slot value_count
      tested i k = slot_saved i k ∙ ap (λ q. cond q 0 (cond (ltb i (pointer_count b)) (saved_value v (get_or v.words (c.start + 1 + i) 0)) (get_or v.words (c.start + 1 + i) 0))) (ne_eqb c.start (first h 3) other)

      pub value_slot : (i : ℕ) → i < pointer_count b → i < c.slots → get_or b'.words i 0 ≡ saved_value v (get_or b.words i 0)
      value_slot i l k =
          tested i k ∙ ap (λ q. cond q (saved_value v (get_or v.words (c.start + 1 + i) 0)) (get_or v.words (c.start + 1 + i) 0)) (lt-ltb i (pointer_count b) l)
          ∙ ap (saved_value v) (sym (word_same i k))

      rest_slot : (i : ℕ) → pointer_count b ≤ i → i < c.slots → get_or b'.words i 0 ≡ get_or b.words i 0
      rest_slot i l k =
          tested i k ∙ ap (λ q. cond q (saved_value v (get_or v.words (c.start + 1 + i) 0)) (get_or v.words (c.start + 1 + i) 0)) (le-ltb i (pointer_count b) l)
          ∙ sym (word_same i k)

      pointers_in : pointer_count b ≤ c.slots
      pointers_in = let fit = pointers_fit b (whole.sound.formed c.start on) in omega (arith, fit, slots_same)

      rest_same : drop (pointer_count b) b'.words ≡ drop (pointer_count b) b.words
      rest_same =
          let n : ℕ = pointer_count b in
          let la = length-drop n b'.words in
          let lb = length-drop n b.words in
          ext_get_or 0 (drop n b'.words) (drop n b.words) (omega (arith, la, lb, slots_saved, slots_same))
          (λ i l. get_or-drop n b'.words i 0 ∙ rest_slot (n + i) (omega arith) (omega (arith, l, la, slots_saved)) ∙ sym (get_or-drop n b.words i 0))

    pub placed_object : IsPlacedObject p (has_object v) h g c.start
    placed_object = record {
      there = there';
      head = head_same;
      long = slots_saved ∙ sym slots_same;
      slots = λ lists roots i l. subst (IsPlacedWord p (has_object v) h g (get_or b.words i 0)) (sym (value_slot lists i l (let fit = pointers_in lists in omega (arith, l, fit))))
          (placed_word (get_or b.words i 0) (slot_good v (whole_sound v whole) c.start i on lists roots l));
      units = λ lists roots. rest_same lists;
    }
