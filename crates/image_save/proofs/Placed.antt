-- The objects of a heap under their places in its file.
use Rattle.std.proofs.Common.{◌≡◌, ◌≢◌, ℕ, true, false, cond, not, ◌&&◌, ◌+◌, ◌-◌, ◌*◌, ◌/◌, ◌<◌, [], ◌∷◌, length, get_or, sym, ap, ◌∙◌, subst, arith, Option, Some}
use Rattle.std.proofs.lemmas.Bool.{false≢true, lt-ltb, or_right}
use Rattle.spur_graph.specs.ImageFile.{base}
use Rattle.spur_graph.specs.Segments.{word_in, word_count, address_in}
use Rattle.object_header.specs.Chunks.{Cuts, chunks}
use Rattle.spur_graph.specs.Cells.{Cell, Store, Moved, store_in, is_there, is_moved, first, final}
use Rattle.spur_graph.specs.Ordinary.{body_at, root_slot, page_places, roots_slots, is_good_reference}
use Rattle.spur_graph.specs.Value.{is_immediate_word}
use Rattle.spur_graph.specs.Heaps.{View, IsWhole, store_of}
use Rattle.heap_cells.proofs.CellKinds.{there_starts}
use Rattle.heap_cells.proofs.Chains.{final-there}
use Rattle.heap_cells.proofs.Bodies.{all_pointers}
use Rattle.heap_cells.proofs.Cutting.{chunks-are}
use Rattle.heap_cells.proofs.Starts.{start-read}
use Rattle.spur_heap.proofs.Pages.{word_named}
use Rattle.heap_segments.specs.Rising.{IsRising}
use Rattle.heap_segments.proofs.Rising.{address-cons, has_its_word, has_its_address}
use Rattle.heap_laws.proofs.Wholes.{whole_is_ready}
use Rattle.heap_cells.proofs.WholeClosed.{sound_loadable}
use Rattle.heap_laws.specs.Placed.{IsPlacedObject, IsPlacedWord, IsPlaced, CanPlace}
use Rattle.image_save.specs.Saved.{saved_value, saved_words, file_place, file_words, has_object}
use Rattle.image_save.specs.Denotes.{SavedIsCut, SavedIsPlaced, saved_segment, saved_store}
use Rattle.spur_heap.proofs.Puts.{whole_sound}
use Rattle.image_save.proofs.Parts.{start_saved}
use Rattle.image_save.proofs.Fits.{small}
use Rattle.image_save.proofs.Values.{root_there}
use Rattle.image_save.proofs.Moves.{object_place, places_once}
use Rattle.image_save.proofs.Ranges.{saved_cuts}
use Rattle.image_save.proofs.Objects.{placed, new, new_order, none_moved, start_placed}
use Rattle.image_save.proofs.Firsts.{first_placed, five_placed}
use Rattle.image_save.proofs.Standing.{NamesPlaces, placed_object, value_is, value_slot, slots_same, placed_word}

pub saved_is_cut : SavedIsCut
saved_is_cut v whole = saved_cuts v whole

moved_cell : (x : Cell) (t : ℕ) → is_moved x ≡ false → x ≡ Moved t → ⊥
moved_cell x t off e = false≢true (sym off ∙ ap is_moved e)

module _ (v : View) (whole : IsWhole v) (to : ℕ → Option ℕ) (names : NamesPlaces v to) where
  abbrev h : Store
  h = store_of v

  abbrev g : Store
  g = new v whole to

  abbrev p : ℕ → ℕ
  p = file_place v

  each_object : (s : ℕ) → is_there (h.cell s) ≡ true → IsPlacedObject p (has_object v) h g s
  each_object s on =
      let c = start_saved v whole s (there_starts (h.cell s) on) in
      subst (IsPlacedObject p (has_object v) h g) c.2 (placed_object v whole to names c.0 c.1 (ap (λ t. is_there (h.cell t)) c.2 ∙ on))

  back : (t : ℕ) → is_there (g.cell t) ≡ true → (s : ℕ) × (has_object v s ≡ true) × (p s ≡ t)
  back t on =
      let c = start_placed v whole to t (there_starts (g.cell t) on) in
      (c.0.start, c.2, c.3)

  -- the hidden roots are not the free lists object
  firsts_apart : first h 4 ≢ first h 3
  firsts_apart e = let five = whole.sound.roots.five in let l = (whole_is_ready v whole).1 3 4 (omega arith) (omega (arith, five)) in absurd (omega (arith, e, l))

  -- a place of the hidden roots names the same page
  root_named : (i s : ℕ) → i < page_places → h.to (root_slot h i) ≡ Some s → g.to (root_slot g i) ≡ Some (p s)
  root_named i s l e =
      let on : is_there (h.cell (first h 4)) ≡ true = whole.sound.roots.objects 4 (omega arith) in
      let c = start_saved v whole (first h 4) (there_starts (h.cell (first h 4)) on) in
      let on' : is_there (h.cell c.0.start) ≡ true = ap (λ t. is_there (h.cell t)) c.2 ∙ on in
      let four = first_placed v whole to 4 (omega arith) in
      let long : length (body_at h c.0.start).words ≡ roots_slots = ap (λ t. length (body_at h t).words) c.2 ∙ whole.sound.roots.roots.1 in
      let two : (body_at h c.0.start).format ≡ 2 = ap (λ t. (body_at h t).format) c.2 ∙ whole.sound.roots.roots.0 in
      let count = all_pointers (body_at h c.0.start) (omega (arith, two)) in
      let size = slots_same v whole to names c.0 c.1 on' in
      let other : c.0.start ≢ first h 3 = λ x. firsts_apart (sym c.2 ∙ x) in
      let w : ℕ = root_slot h i in
      let slot : root_slot g i ≡ saved_value v w =
      ap (λ t. get_or (body_at g t).words i 0) (four ∙ ap p (sym c.2)) ∙ value_slot v whole to names c.0 c.1 on' other i (omega (arith, l, long, count)) (omega (arith, l, long, size)) ∙ ap (λ t. saved_value v (get_or (body_at h t).words i 0)) c.2 in
      let n = word_named w s e in
      let there = root_there v (whole_sound v whole) i s l e in
      let same : final h (w / 8) ≡ s = ap (final h) n.1 ∙ final-there h s there in
      ap to (slot ∙ value_is v whole to names w (omega (arith, n.0)) ∙ ap (λ t. base v.carried + 8 * p t) same) ∙ names.named (p s) (object_place v whole s there)

  is_placed : IsPlaced p (has_object v) h g
  is_placed = record {
    some = λ s on. on;
    objects = each_object;
    back = back;
    once = places_once v whole;
    five = five_placed v whole to;
    firsts = λ j l. (whole.sound.roots.objects j l, first_placed v whole to j l);
    pages = λ i s l e. (root_there v (whole_sound v whole) i s l e, root_named i s l e);
    targets = λ s t e. absurd (moved_cell (g.cell s) t (none_moved v whole to s) e);
    ends = λ s. ap (λ b. b && not (is_there (g.cell (final g s)))) (none_moved v whole to s);
  }

  can_place : CanPlace p (has_object v) h g
  can_place = record {
    reads = (whole_is_ready v whole).0.reads;
    loadable = sound_loadable (store_of v) whole.sound;
    outer = whole.sound.roots.outer;
    reads_new = record { aligned = names.aligned; inside = λ s on. (start-read to (saved_words v) (length (saved_words v)) (placed v whole to) s (new_order v whole to) on).stands };
    placed = is_placed;
  }

-- ---- the addresses of the one segment

-- the word at an address of the file
abbrev pub to_file : View → ℕ → Option ℕ
to_file v = word_in (saved_segment v ∷ []) 0

module _ (v : View) (whole : IsWhole v) where
  rising : IsRising 0 (saved_segment v ∷ [])
  rising =
      let few = small v whole in
      let low = whole.header.low in
      (record { above = omega arith; aligned = whole.header.aligned; whole = omega arith; some = omega arith; low = omega (arith, few, low) }, tt)

  -- a word's address
  pub address_is : (s : ℕ) → s < file_words v → address_in (saved_segment v ∷ []) s ≡ base v.carried + 8 * s
  address_is s l =
      let n : word_count (saved_segment v) ≡ file_words v = omega arith in
      address-cons (saved_segment v) [] s ∙ ap (λ b. cond b (base v.carried + 8 * s) (address_in [] (s - word_count (saved_segment v)))) (lt-ltb s (word_count (saved_segment v)) (omega (arith, l, n)))

  file_names : NamesPlaces v (to_file v)
  file_names = record {
    named = λ s l. ap (to_file v) (sym (address_is s l)) ∙ has_its_word (saved_segment v ∷ []) s rising (omega (arith, l));
    aligned = λ w s e.
        let a = has_its_address (saved_segment v ∷ []) w s rising e in
        let is = address_is s (omega (arith, a.0)) in
        let z = whole.header.aligned in
        omega (arith, is, a.1, z);
  }

  row_is : chunks (saved_words v) ≡ placed v whole (to_file v)
  row_is = chunks-are (saved_words v) (placed v whole (to_file v)) (saved_cuts v whole)

  -- the words are cut
  pub chunks_cut : Cuts (saved_words v) 0 (length (saved_words v)) (chunks (saved_words v))
  chunks_cut = subst (Cuts (saved_words v) 0 (length (saved_words v))) (sym row_is) (saved_cuts v whole)

  pub store_placed : CanPlace (file_place v) (has_object v) (store_of v) (saved_store v)
  store_placed = subst (λ cs. CanPlace (file_place v) (has_object v) (store_of v) (store_in (to_file v) (saved_words v) cs)) (sym row_is) (can_place v whole (to_file v) file_names)

  -- the special objects word says what it said
  pub special_placed : IsPlacedWord (file_place v) (has_object v) (store_of v) (saved_store v) v.special (saved_value v v.special)
  special_placed =
      subst (λ cs. IsPlacedWord (file_place v) (has_object v) (store_of v) (store_in (to_file v) (saved_words v) cs) v.special (saved_value v v.special)) (sym row_is)
      (placed_word v whole (to_file v) file_names v.special (or_right (is_immediate_word v.special) (is_good_reference (store_of v) v.special) whole.special_there))

pub saved_is_placed : SavedIsPlaced
saved_is_placed v whole = store_placed v whole
