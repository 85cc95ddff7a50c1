-- The words and the chunks of a saved file: an object at its place, and else the free chunk of so many words.
use Rattle.std.proofs.Common.{◌≡◌, ℕ, true, false, cond, eqb, max, ◌+◌, ◌-◌, ◌<◌, ◌≤◌, length, get_or, refl, sym, ap, ◌∙◌, subst, inl, inr, arith}
use Rattle.std.proofs.lemmas.Bool.{cases_Bool, cases_lt, eq-eqb, lt-ltb, le-ltb}
use Rattle.std.proofs.lemmas.List.FromFn.{get_or-map-range_with_len, length-map-range_with_len}
use Rattle.object_header.specs.Head.{count_of, overflow_slots_of}
use Rattle.object_header.specs.Chunks.{Chunk, chunk_of, leads, slots_told, IsChunk}
use Rattle.spur_graph.specs.Heaps.{View, IsWhole, store_of}
use Rattle.spur_graph.specs.Cells.{is_there}
use Rattle.heap_cells.proofs.CellKinds.{there_starts}
use Rattle.heap_cells.proofs.Members.{In}
use Rattle.heap_cells.proofs.Cutting.{stands}
use Rattle.free_lists.specs.Runs.{IsFree}
use Rattle.free_lists.specs.Rows.{written}
use Rattle.free_lists.proofs.Written.{free_is_written}
use Rattle.image_save.specs.Saved.{saved_header, saved_slot, object_word, free_word, has_object, saved_at, saved_word, saved_words, saved_chunks, region_place, file_words, file_place, cut}
use Rattle.image_save.specs.Places.{HasPlace, Covers}
use Rattle.image_save.specs.Denotes.{placed_chunk}
use Rattle.image_save.proofs.Placing.{file_old, file_eden, file_past, region_old, region_eden, region_past}
use Rattle.image_save.proofs.Parts.{Part, old, eden, past, spaced, seen, saved_order, part_of, covers_of, start_has_place}
use Rattle.image_save.proofs.Ready.{word_is}
use Rattle.image_save.proofs.Fits.{place_below, chunk_small}
use Rattle.image_save.proofs.FreeWords.{free_by}
use Rattle.image_save.proofs.SavedHeaders.{header_keeps, header_leads}

-- an object under its place
abbrev pub shifted : View → Chunk → Chunk
shifted v c = record c { at = file_place v c.at; start = file_place v c.start }

pub object_placed : (v : View) (c : Chunk) → has_object v c.start ≡ true → placed_chunk v c ≡ shifted v c
object_placed v c on = ap (λ b. cond b (shifted v c) (written (file_place v c.at) c.size)) on

pub free_placed : (v : View) (c : Chunk) → has_object v c.start ≡ false → placed_chunk v c ≡ written (file_place v c.at) c.size
free_placed v c off = ap (λ b. cond b (shifted v c) (written (file_place v c.at) c.size)) off

module _ (v : View) (whole : IsWhole v) where
  -- where a word is saved, it comes from there
  pub region_file : (q : ℕ) → HasPlace v q → region_place v (file_place v q) ≡ q
  region_file q h =
      let p = spaced v whole in
      elim (cases_lt q (cut v)) [
        | inl a ↦ ap (region_place v) (file_old v q a) ∙ region_old v q a
        | inr a ↦ let low = h.eden a in elim (cases_lt q (v.spaces.eden_at + v.spaces.eden_used)) [
          | inl b ↦
              let is = file_eden v q a b in
              let back = region_eden v (cut v + (q - v.spaces.eden_at)) (omega arith) (omega (arith, low, b)) in
              ap (region_place v) is ∙ back ∙ omega (arith, low)
          | inr b ↦
              let is = file_past v q a b in
              let from = h.past b in
              let back = region_past v (cut v + v.spaces.eden_used + (q - v.spaces.past_at)) (omega arith) (omega arith) in
              ap (region_place v) is ∙ back ∙ omega (arith, from)
        ]
      ]

  -- the place of an object is one of the file, and it is its own
  pub object_place : (s : ℕ) → is_there ((store_of v).cell s) ≡ true → file_place v s < file_words v
  object_place s on = place_below v whole s (start_has_place v whole s (there_starts ((store_of v).cell s) on))

  pub places_once : (s t : ℕ) → is_there ((store_of v).cell s) ≡ true → is_there ((store_of v).cell t) ≡ true → file_place v s ≡ file_place v t → s ≡ t
  places_once s t a b e =
      let from = region_file s (start_has_place v whole s (there_starts ((store_of v).cell s) a)) in
      let to = region_file t (start_has_place v whole t (there_starts ((store_of v).cell t) b)) in
      sym from ∙ ap (region_place v) e ∙ to

  pub words_long : length (saved_words v) ≡ file_words v
  unfolding saved_words
  words_long = length-map-range_with_len (saved_word v) 0 (file_words v)

  -- the word of a chunk that is saved
  pub word_at_place : (c : Chunk) (q : ℕ) → In (saved_chunks v) c → c.at ≤ q → q < c.at + c.size → get_or (saved_words v) (file_place v q) 0 ≡ saved_at v c q
  unfolding saved_words
  word_at_place c q m low high =
      let k = covers_of v whole c q m low high in
      let l = place_below v whole q k.1 in
      let same = region_file q k.1 in
      get_or-map-range_with_len (saved_word v) 0 (file_words v) (file_place v q) (file_place v q) 0 l (omega arith)
      ∙ word_is v whole (file_place v q) c l (subst (Covers v c) (sym same) k.0)
      ∙ ap (saved_at v c) same

  -- ---- the words of an object

  module _ (c : Chunk) (m : In (saved_chunks v) c) (on : has_object v c.start ≡ true) where
    pub object_word_at : (q : ℕ) → c.at ≤ q → q < c.at + c.size → get_or (saved_words v) (file_place v q) 0 ≡ object_word v c.start q
    unfolding saved_at
    object_word_at q low high = word_at_place c q m low high ∙ ap (λ b. cond b (object_word v c.start q) (free_word c.size (q - c.at))) on

    first_word : c.at < c.start → get_or (saved_words v) (file_place v c.at) 0 ≡ get_or v.words c.at 0
    unfolding object_word
    first_word l =
        let s = (seen v whole c m).lies in
        object_word_at c.at (omega arith) (omega (arith, s.lead, s.room))
        ∙ ap (λ b. cond b (get_or v.words c.at 0) (cond (eqb c.at c.start) (saved_header (get_or v.words c.at 0)) (saved_slot v c.start (c.at - (c.start + 1))))) (lt-ltb c.at c.start l)

    pub header_word : get_or (saved_words v) (file_place v c.start) 0 ≡ saved_header (get_or v.words c.start 0)
    unfolding object_word
    header_word =
        let s = (seen v whole c m).lies in
        object_word_at c.start s.lead (omega (arith, s.room))
        ∙ ap (λ b. cond b (get_or v.words c.start 0) (cond (eqb c.start c.start) (saved_header (get_or v.words c.start 0)) (saved_slot v c.start (c.start - (c.start + 1))))) (le-ltb c.start c.start (omega arith))
        ∙ ap (λ b. cond b (saved_header (get_or v.words c.start 0)) (saved_slot v c.start (c.start - (c.start + 1)))) (eq-eqb c.start c.start refl)

  -- places in one chunk stand as far apart as before
  pub place_in : (c : Chunk) → In (saved_chunks v) c → (q : ℕ) → c.at ≤ q → q < c.at + c.size → file_place v q ≡ file_place v c.at + (q - c.at)
  place_in c m q low high =
      let s = (seen v whole c m).lies in
      let p = spaced v whole in
      by (part_of v whole c m) (omega (arith, s.lead, s.room))
    where
      by : Part v whole c → c.at < c.at + c.size → file_place v q ≡ file_place v c.at + (q - c.at)
      by (old k b) some = let is = file_old v q (omega (arith, high, b)) in let at = file_old v c.at (omega (arith, some, b)) in omega (arith, is, at, low)
      by (eden k a b) some =
          let p = spaced v whole in
          let is = file_eden v q (omega (arith, a, low, p.old)) (omega (arith, high, b)) in
          let at = file_eden v c.at (omega (arith, a, p.old)) (omega (arith, some, b)) in
          omega (arith, is, at, low, a)
      by (past k a b) some =
          let p = spaced v whole in
          let is = file_past v q (omega (arith, a, low, p.old, p.eden)) (omega (arith, a, low, p.eden)) in
          let at = file_past v c.at (omega (arith, a, p.old, p.eden)) (omega (arith, a, p.eden)) in
          omega (arith, is, at, low, a)

  -- an object is one of the file
  object_saved : (c : Chunk) → In (saved_chunks v) c → has_object v c.start ≡ true → IsChunk (saved_words v) (file_place v c.at) (shifted v c)
  unfolding chunk_of
  object_saved c m there =
      let s = seen v whole c m in
      let st = stands v.words 0 (length v.words) (saved_chunks v) c (saved_order v whole) m in
      let twice = st.chunk.twice in
      let is = s.is in
      elim (cases_Bool (leads (get_or v.words c.at 0))) [
        | inl on ↦
            let start : c.start ≡ c.at + 1 = ap (λ (d : Chunk). d.start) is ∙ ap (λ b. cond b (c.at + 1) c.at) on in
            let word = first_word c m there (omega (arith, start)) in
            let place = place_in c m c.start (omega (arith, start)) (omega (arith, s.lies.room)) in
            let next : file_place v c.start ≡ file_place v c.at + 1 = omega (arith, place, start) in
            let start_is : file_place v c.start ≡ cond (leads (get_or (saved_words v) (file_place v c.at) 0)) (file_place v c.at + 1) (file_place v c.at) = next ∙ sym (ap (λ b. cond b (file_place v c.at + 1) (file_place v c.at)) (ap leads word ∙ on)) in
            record {
              is = λ i. record {
                at = file_place v c.at;
                start = start_is i;
                size = (ap (λ (d : Chunk). d.size) is ∙ sym (ap (λ w. (chunk_of 0 w).size) word)) i;
                slots = (ap (λ (d : Chunk). d.slots) is ∙ sym (ap slots_told word)) i;
              };
              twice = ap leads (header_word c m there) ∙ header_leads (get_or v.words c.start 0) ∙ twice ∙ sym (ap leads word);
            }
        | inr off ↦
            let start : c.start ≡ c.at = ap (λ (d : Chunk). d.start) is ∙ ap (λ b. cond b (c.at + 1) c.at) off in
            let word : get_or (saved_words v) (file_place v c.at) 0 ≡ saved_header (get_or v.words c.at 0) = ap (λ n. get_or (saved_words v) (file_place v n) 0) (sym start) ∙ header_word c m there ∙ ap (λ n. saved_header (get_or v.words n 0)) start in
            let off' : leads (get_or (saved_words v) (file_place v c.at) 0) ≡ false = ap leads word ∙ header_leads (get_or v.words c.at 0) ∙ off in
            let told : slots_told (get_or (saved_words v) (file_place v c.at) 0) ≡ slots_told (get_or v.words c.at 0) =
            ap (λ b. cond b (overflow_slots_of (get_or (saved_words v) (file_place v c.at) 0)) (count_of (get_or (saved_words v) (file_place v c.at) 0))) off' ∙ ap count_of word ∙ (header_keeps (get_or v.words c.at 0)).count
            ∙ sym (ap (λ b. cond b (overflow_slots_of (get_or v.words c.at 0)) (count_of (get_or v.words c.at 0))) off) in
            record {
              is = λ i. record {
                at = file_place v c.at;
                start = (ap (file_place v) start ∙ sym (ap (λ b. cond b (file_place v c.at + 1) (file_place v c.at)) off')) i;
                size = (ap (λ (d : Chunk). d.size) is ∙ (λ j. cond (off j) 2 1 + max 1 (sym told j)) ∙ (λ j. cond (sym off' j) 2 1 + max 1 (slots_told (get_or (saved_words v) (file_place v c.at) 0)))) i;
                slots = (ap (λ (d : Chunk). d.slots) is ∙ sym told) i;
              };
              twice = ap (λ n. leads (get_or (saved_words v) (file_place v n) 0)) start;
            }
      ]

  -- and everything else is a free chunk of its words
  pub free_saved : (c : Chunk) → In (saved_chunks v) c → has_object v c.start ≡ false → IsFree (saved_words v) (file_place v c.at) c.size
  unfolding saved_at
  free_saved c m off =
      let l = (seen v whole c m).lies in
      let low : 2 ≤ c.size = omega (arith, l.lead, l.room) in
      let word : (q : ℕ) → c.at ≤ q → q < c.at + c.size → get_or (saved_words v) (file_place v q) 0 ≡ free_word c.size (q - c.at) =
      λ q from to. word_at_place c q m from to ∙ ap (λ b. cond b (object_word v c.start q) (free_word c.size (q - c.at))) off in
      let next = place_in c m (c.at + 1) (omega arith) (omega (arith, low)) in
      let second : file_place v c.at + 1 ≡ file_place v (c.at + 1) = omega (arith, next) in
      let last = place_in c m (c.at + c.size - 1) (omega (arith, low)) (omega (arith, low)) in
      let inside = place_below v whole (c.at + c.size - 1) (covers_of v whole c (c.at + c.size - 1) m (omega (arith, low)) (omega (arith, low))).1 in
      let zero_is : c.at - c.at ≡ 0 = omega arith in
      let one_is : c.at + 1 - c.at ≡ 1 = omega arith in
      free_by c.size (saved_words v) (file_place v c.at) low (chunk_small v whole c m) (omega (arith, words_long, inside, last, low))
      (word c.at (omega arith) (omega (arith, low)) ∙ ap (free_word c.size) zero_is)
      (ap (λ n. get_or (saved_words v) n 0) second ∙ word (c.at + 1) (omega arith) (omega (arith, low)) ∙ ap (free_word c.size) one_is)

  -- a chunk that is saved is one of the file
  pub chunk_saved : (c : Chunk) → In (saved_chunks v) c → IsChunk (saved_words v) (file_place v c.at) (placed_chunk v c)
  chunk_saved c m = elim (cases_Bool (has_object v c.start)) [
    | inl on ↦ subst (IsChunk (saved_words v) (file_place v c.at)) (sym (object_placed v c on)) (object_saved c m on)
    | inr off ↦ subst (IsChunk (saved_words v) (file_place v c.at)) (sym (free_placed v c off)) (free_is_written (saved_words v) (file_place v c.at) c.size (free_saved c m off)).chunk
  ]
