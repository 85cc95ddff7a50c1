-- Each word of a saved file has 64 bits.
use Rattle.std.proofs.Common.{◌≡◌, ℕ, suc, zero, true, cond, eqb, ltb, ◌+◌, ◌-◌, ◌*◌, ◌/◌, ◌%◌, ◌^◌, ◌<◌, ◌≤◌, length, get_or, ap, ◌∙◌, subst, inl, inr, arith}
use Rattle.std.proofs.lemmas.Bool.{cases_Bool, cases_eq, cases_lt, eq-eqb, ne_eqb, lt-ltb, le-ltb}
use Rattle.std.proofs.Math.ListN.{get_or-eq_default}
use Rattle.std.specs.List.{All}
use Rattle.object_header.proofs.Fields.{field_of-lt}
use Rattle.spur_graph.specs.ImageFile.{base}
use Rattle.object_header.specs.Chunks.{Chunk}
use Rattle.spur_graph.specs.Cells.{first, final}
use Rattle.spur_graph.specs.Heaps.{View, IsWhole, store_of}
use Rattle.heap_cells.proofs.Members.{In, in_list}
use Rattle.heap_cells.proofs.CellKinds.{there_starts}
use Rattle.spur_heap.proofs.Hops.{end_there}
use Rattle.image_save.specs.Saved.{saved_header, saved_value, saved_slot, object_word, free_word, has_object, saved_at, saved_word, saved_chunks, region_place, file_words, file_place, cut, value_count}
use Rattle.image_save.specs.Places.{HasPlace, Begins, Covers}
use Rattle.image_save.specs.Words.{IsValue}
use Rattle.image_save.proofs.Placing.{file_old, file_eden, file_past}
use Rattle.image_save.proofs.Parts.{whole_sound, spaced, seen, first_begins, next_begins, rises, start_has_place}
use Rattle.image_save.proofs.Values.{counted_value}
use Rattle.image_save.proofs.FreeWords.{either, free_fits}
use Rattle.image_save.proofs.Ready.{word_behind, word_is}

module _ (v : View) (whole : IsWhole v) where
  from_begin : (i : ℕ) → Begins v (region_place v i) → (c : Chunk) × Covers v c (region_place v i)
  from_begin i b =
      let s = (seen v whole b.chunk (in_list (saved_chunks v) b.chunk b.saved)).lies in
      (b.chunk, record { saved = b.saved; from = omega (arith, b.here); to = omega (arith, b.here, s.lead, s.room) })

  next_covered : (i : ℕ) → suc i < file_words v → (c : Chunk) × Covers v c (region_place v i) → (c : Chunk) × Covers v c (region_place v (suc i))
  next_covered i l k =
      let c : Chunk = k.0 in
      let one : i + 1 ≡ suc i = omega arith in
      let same = ap (region_place v) one in
      let rising = rises v whole i (omega (arith, l)) in
      elim (cases_lt (region_place v (suc i)) (c.at + c.size)) [
        | inl inside ↦ (c, record { saved = k.1.saved; from = omega (arith, rising, same, k.1.from); to = inside })
        | inr behind ↦ from_begin (suc i) (subst (Begins v) same (next_begins v whole i c (in_list (saved_chunks v) c k.1.saved) (omega (arith, l)) k.1.from k.1.to (omega (arith, behind, same))))
      ]

  -- each word of the file is one of a chunk that is saved
  pub covered : (i : ℕ) → i < file_words v → (c : Chunk) × Covers v c (region_place v i)
  covered zero l = from_begin 0 (first_begins v whole l)
  covered (suc i) l = next_covered i l (covered i (omega (arith, l)))

  -- a place in the file
  pub place_below : (s : ℕ) → HasPlace v s → file_place v s < file_words v
  place_below s h = elim (cases_lt s (cut v)) [
    | inl a ↦ let is = file_old v s a in omega (arith, is, a)
    | inr a ↦ elim (cases_lt s (v.spaces.eden_at + v.spaces.eden_used)) [
      | inl b ↦ let is = file_eden v s a b in let low = h.eden a in omega (arith, is, b, low)
      | inr b ↦ let is = file_past v s a b in let low = h.past b in let up = h.inside in omega (arith, is, low, up)
    ]
  ]

  pub chunk_small : (c : Chunk) → In (saved_chunks v) c → c.size ≤ 2 ^ 27
  chunk_small c m = let l = (seen v whole c m).lies in let few = whole.few in omega (arith, l.before, few)

  pub small : file_words v ≤ 2 ^ 27
  small = let p = spaced v whole in let few = whole.few in omega (arith, p.old, p.eden, p.past, few)

  module _ (all : All (λ w. w < 2 ^ 64) v.words) where
    word_fits : (k : ℕ) → get_or v.words k 0 < 2 ^ 64
    word_fits k = elim (cases_lt k (length v.words)) [
      | inl l ↦ all k 0 l
      | inr l ↦ let none = get_or-eq_default v.words 0 l in omega (arith, none)
    ]

    header_fits : (w : ℕ) → saved_header w < 2 ^ 64
    unfolding saved_header
    header_fits w =
        let count = field_of-lt w 56 8 in
        let hash = field_of-lt w 32 22 in
        let pinned = field_of-lt w 30 1 in
        let format = field_of-lt w 24 5 in
        let readonly = field_of-lt w 23 1 in
        let class = field_of-lt w 0 22 in
        omega (arith, count, hash, pinned, format, readonly, class)

    pub value_fits : (w : ℕ) → IsValue v w → w < 2 ^ 64 → saved_value v w < 2 ^ 64
    unfolding saved_value
    value_fits w k l = elim (cases_eq (w % 8) 0) [
      | inl z ↦
          let s : ℕ = final (store_of v) (w / 8) in
          let place = place_below s (start_has_place v whole s (there_starts ((store_of v).cell s) (end_there v (whole_sound v whole) (w / 8) (k z)))) in
          let low = whole.header.low in
          let few = small in
          let is : saved_value v w ≡ base v.carried + 8 * file_place v s = ap (λ b. cond b (base v.carried + 8 * file_place v s) w) (eq-eqb (w % 8) 0 z) in
          omega (arith, is, place, low, few)
      | inr n ↦ let is : saved_value v w ≡ w = ap (λ b. cond b (base v.carried + 8 * file_place v (final (store_of v) (w / 8))) w) (ne_eqb (w % 8) 0 n) in omega (arith, is, l)
    ]

    -- a slot of an object
    slot_fits : (s n : ℕ) → has_object v s ≡ true → saved_slot v s n < 2 ^ 64
    unfolding saved_slot
    slot_fits s n on =
        let w : ℕ = get_or v.words (s + 1 + n) 0 in
        let rest : ℕ = cond (ltb n (value_count v s)) (saved_value v w) w in
        elim (cases_eq s (first (store_of v) 3)) [
          | inl lists ↦ let is : saved_slot v s n ≡ 0 = ap (λ b. cond b 0 rest) (eq-eqb s (first (store_of v) 3) lists) in omega (arith, is)
          | inr other ↦
              let front : saved_slot v s n ≡ rest = ap (λ b. cond b 0 rest) (ne_eqb s (first (store_of v) 3) other) in
              elim (cases_lt n (value_count v s)) [
                | inl l ↦
                    let is : saved_slot v s n ≡ saved_value v w = front ∙ ap (λ b. cond b (saved_value v w) w) (lt-ltb n (value_count v s) l) in
                    let fits = value_fits w (counted_value v (whole_sound v whole) s n on other l) (word_fits (s + 1 + n)) in
                    omega (arith, is, fits)
                | inr l ↦
                    let is : saved_slot v s n ≡ w = front ∙ ap (λ b. cond b (saved_value v w) w) (le-ltb n (value_count v s) l) in
                    let fits = word_fits (s + 1 + n) in
                    omega (arith, is, fits)
              ]
        ]

    object_fits : (s q : ℕ) → has_object v s ≡ true → object_word v s q < 2 ^ 64
    unfolding object_word
    object_fits s q on = either (ltb q s) (get_or v.words q 0) (cond (eqb q s) (saved_header (get_or v.words q 0)) (saved_slot v s (q - (s + 1)))) (word_fits q)
        (either (eqb q s) (saved_header (get_or v.words q 0)) (saved_slot v s (q - (s + 1))) (header_fits (get_or v.words q 0)) (slot_fits s (q - (s + 1)) on))

    at_fits : (c : Chunk) (q : ℕ) → In (saved_chunks v) c → saved_at v c q < 2 ^ 64
    unfolding saved_at
    at_fits c q m = elim (cases_Bool (has_object v c.start)) [
      | inl on ↦
          let is : saved_at v c q ≡ object_word v c.start q = ap (λ b. cond b (object_word v c.start q) (free_word c.size (q - c.at))) on in
          let fits = object_fits c.start q on in
          omega (arith, is, fits)
      | inr off ↦
          let is : saved_at v c q ≡ free_word c.size (q - c.at) = ap (λ b. cond b (object_word v c.start q) (free_word c.size (q - c.at))) off in
          let fits = free_fits c.size (q - c.at) (chunk_small c m) in
          omega (arith, is, fits)
    ]

    pub saved_fits : (i : ℕ) → saved_word v i < 2 ^ 64
    saved_fits i = elim (cases_lt i (file_words v)) [
      | inl l ↦
          let c = covered i l in
          let is = word_is v whole i c.0 l c.1 in
          let fits = at_fits c.0 (region_place v i) (in_list (saved_chunks v) c.0 c.1.saved) in
          omega (arith, is, fits)
      | inr l ↦ let is = word_behind v i l in omega (arith, is)
    ]
