-- What stands in a saved file: an object where one stood, no forwarder, and the words of its slots.
use Rattle.std.proofs.Common.{◌≡◌, ◌≢◌, ℕ, true, false, cond, not, ◌||◌, eqb, ◌+◌, ◌-◌, ◌<◌, List, length, get_or, sym, ap, ◌∙◌, subst, inl, inr, arith, Option}
use Rattle.std.proofs.lemmas.Bool.{cases_Bool, false≢true, ne_eqb, le-ltb}
use Rattle.object_header.specs.Fields.{fields_of}
use Rattle.object_header.specs.Head.{class_of}
use Rattle.object_header.specs.Chunks.{Chunk, InOrder, slots_of, slots_at}
use Rattle.spur_graph.specs.Cells.{Store, read_cell, start_named, is_start, is_there, is_moved, store_in}
use Rattle.spur_graph.specs.Heaps.{View, IsWhole}
use Rattle.free_lists.specs.Rows.{written}
use Rattle.free_lists.proofs.Written.{free_is_written}
use Rattle.heap_cells.proofs.CellKinds.{no_start_is_not_moved}
use Rattle.heap_cells.proofs.Members.{In}
use Rattle.heap_cells.proofs.AddedRoom.{in_map}
use Rattle.heap_cells.proofs.Cutting.{stands, shape, cell-at, start-in, cuts-in_order}
use Rattle.heap_cells.proofs.Starts.{start-read}
use Rattle.spur_heap.proofs.RunSizes.{map_in}
use Rattle.image_save.specs.Saved.{saved_header, saved_slot, object_word, has_object, saved_words, saved_chunks, file_place}
use Rattle.image_save.specs.Denotes.{placed_chunk, placed_chunks}
use Rattle.image_save.proofs.Parts.{there_from, seen}
use Rattle.image_save.proofs.SavedHeaders.{header_class}
use Rattle.image_save.proofs.Moves.{shifted, object_placed, free_placed, free_saved, object_word_at, header_word, place_in}
use Rattle.image_save.proofs.Ranges.{saved_cuts}

module _ (v : View) (whole : IsWhole v) (to : ℕ → Option ℕ) where
  abbrev W : List ℕ
  W = saved_words v

  abbrev pub placed : List Chunk
  placed = placed_chunks v

  -- the words of the file as a store
  abbrev pub new : Store
  new = store_in to (saved_words v) placed

  pub new_order : InOrder (saved_words v) 0 (length (saved_words v)) placed
  new_order = cuts-in_order W 0 (length W) placed (saved_cuts v whole)

  -- a chunk of the file is one that is saved
  from_saved : (d : Chunk) → In placed d → (c : Chunk) × In (saved_chunks v) c × (placed_chunk v c ≡ d)
  from_saved d m = in_map (placed_chunk v) (saved_chunks v) d m

  -- each start of the file is the place of an object
  pub start_placed : (t : ℕ) → is_start (new.cell t) ≡ true → (c : Chunk) × In (saved_chunks v) c × (has_object v c.start ≡ true) × (file_place v c.start ≡ t)
  start_placed t on =
      let d = start-in to W placed t on in
      let c = from_saved d.0 d.1 in
      elim (cases_Bool (has_object v c.0.start)) [
        | inl there ↦ (c.0, c.1, there, ap (λ (d : Chunk). d.start) (sym (object_placed v c.0 there) ∙ c.2) ∙ d.2)
        | inr off ↦
            let free = free_is_written W (file_place v c.0.at) c.0.size (free_saved v whole c.0 c.1 off) in
            let is : (written (file_place v c.0.at) c.0.size).start ≡ t = ap (λ (d : Chunk). d.start) (sym (free_placed v c.0 off) ∙ c.2) ∙ d.2 in
            absurd ((start-read to W (length W) placed t new_order on).not_free (ap (λ n. class_of (get_or W n 0)) (sym is) ∙ free.class))
      ]

  -- ---- an object that is saved

  module _ (c : Chunk) (m : In (saved_chunks v) c) (on : has_object v c.start ≡ true) where
    in_file : In placed (shifted v c)
    in_file = subst (In placed) (object_placed v c on) (map_in (placed_chunk v) (saved_chunks v) c m)

    class_at : class_of (get_or W (file_place v c.start) 0) ≡ class_of (get_or v.words c.start 0)
    class_at = ap class_of (header_word v whole c m on) ∙ header_class (get_or v.words c.start 0)

    pub there_placed : is_there (new.cell (file_place v c.start)) ≡ true
    unfolding read_cell
    there_placed =
        let t : ℕ = file_place v c.start in
        ap is_there (cell-at to W 0 (length W) placed (shifted v c) new_order in_file)
        ∙ there_from (fields_of (get_or W t 0)) (start_named to W (get_or W (t + 1) 0)) (slots_of W (shifted v c))
        ∙ ap (λ k. not (eqb k 0 || eqb k 8)) class_at ∙ sym (seen v whole c m).there ∙ on

    no_forwarder : class_of (get_or v.words c.start 0) ≢ 8
    no_forwarder e = false≢true (sym ((seen v whole c m).there ∙ ap (λ k. not (eqb k 0 || eqb k 8)) e) ∙ on)

    -- it has as many slots as it had
    pub slots_told : slots_at W (file_place v c.start) ≡ c.slots
    slots_told = (shape W (shifted v c) (stands W 0 (length W) placed (shifted v c) new_order in_file).chunk).slots

    -- the word of a slot
    pub slot_word : (i : ℕ) → i < c.slots → get_or W (file_place v c.start + 1 + i) 0 ≡ saved_slot v c.start i
    unfolding object_word
    slot_word i l =
        let s = (seen v whole c m).lies in
        let q : ℕ = c.start + 1 + i in
        let at : file_place v q ≡ file_place v c.start + 1 + i =
        let a = place_in v whole c m q (omega (arith, s.lead)) (omega (arith, s.slots, l)) in let b = place_in v whole c m c.start s.lead (omega (arith, s.room)) in omega (arith, a, b, s.lead) in
        let back : q - (c.start + 1) ≡ i = omega arith in
        ap (λ n. get_or W n 0) (sym at) ∙ object_word_at v whole c m on q (omega (arith, s.lead)) (omega (arith, s.slots, l))
        ∙ ap (λ b. cond b (get_or v.words q 0) (cond (eqb q c.start) (saved_header (get_or v.words q 0)) (saved_slot v c.start (q - (c.start + 1))))) (le-ltb q c.start (omega arith))
        ∙ ap (λ b. cond b (saved_header (get_or v.words q 0)) (saved_slot v c.start (q - (c.start + 1)))) (ne_eqb q c.start (λ e. absurd (omega (arith, e))))
        ∙ ap (saved_slot v c.start) back

  -- there are no forwarders
  pub none_moved : (t : ℕ) → is_moved (new.cell t) ≡ false
  none_moved t = elim (cases_Bool (is_start (new.cell t))) [
    | inr off ↦ no_start_is_not_moved (new.cell t) off
    | inl on ↦
        let c = start_placed t on in
        (start-read to W (length W) placed t new_order on).moved ∙ ap (λ n. eqb (class_of (get_or W n 0)) 8) (sym c.3)
        ∙ ap (λ n. eqb n 8) (class_at c.0 c.1 c.2) ∙ ne_eqb (class_of (get_or v.words c.0.start 0)) 8 (no_forwarder c.0 c.1 c.2)
  ]
