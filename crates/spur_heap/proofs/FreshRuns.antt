-- A run of words that is a fresh object: how it comes about, and the chunk and the object that it then is.
use Rattle.std.proofs.Common.{◌≡◌, ◌≢◌, ◌⊎◌, ℕ, Bool, true, false, cond, ◌+◌, ◌-◌, ◌<◌, ◌≤◌, max, eqb, List, ◌++◌, length, take, drop, replicate, get_or, set, get_or-set_other, length-set, refl, sym, ap, ◌∙◌, subst, arith, inl, inr}
use Rattle.std.proofs.lemmas.Bool.{cases_Bool, ltb-true, ltb-false, ne_eqb}
use Rattle.std.proofs.lemmas.List.{length-take-le, length-drop, length-replicate, get_or-take, get_or-drop, get_or_append_left, get_or-append_right, get_or-replicate, ext_get_or}
use Rattle.object_header.specs.Chunks.{leads, chunk_of, IsChunk, slots_of}
use Rattle.object_header.specs.Head.{count_of, overflow_slots_of}
use Rattle.object_header.specs.Fields.{Fields}
use Rattle.spur_words.specs.Lending.{with_run}
use Rattle.spur_graph.specs.Room.{is_long, fresh_words}
use Rattle.spur_graph.specs.Cells.{There, Moved, Empty, read_cell, cell_from, start_named}
use Rattle.spur_graph.specs.Heaps.{Phase, HasBits, heap_to, is_remembered}
use Rattle.spur_heap.specs.Fresh.{fresh_start, fresh_chunk, fresh_body, IsFreshHeader, IsFreshRun, SameOutside}

-- where the header of a run stands, and where its end is
pub record FreshPlaces (at slots : ℕ) : Type 0 where
  pub low : at ≤ fresh_start at slots
  pub high : fresh_start at slots ≤ at + 1
  pub end : at + fresh_words slots ≡ fresh_start at slots + 1 + max 1 slots
  pub some : 2 ≤ fresh_words slots

pub fresh_places : (at slots : ℕ) → FreshPlaces at slots
fresh_places at slots =
    let p = by_length (is_long slots) (λ on. ltb-true 254 slots on) in
    record { low = p.0; high = p.1; end = p.2; some = p.3 }
  where
    by_length : (b : Bool) → (b ≡ true → 254 < slots)
        → (at ≤ cond b (at + 1) at) × (cond b (at + 1) at ≤ at + 1) × (at + cond b (2 + slots) (1 + max 1 slots) ≡ cond b (at + 1) at + 1 + max 1 slots) × (2 ≤ cond b (2 + slots) (1 + max 1 slots))
    by_length true large = let l = large refl in (omega arith, omega arith, omega (arith, l), omega arith)
    by_length false large = (omega arith, omega arith, omega arith, omega arith)

-- ---- words that were written

module _ (ws run : List ℕ) (at : ℕ) (fits : at + length run ≤ length ws) where
  run_out : (j : ℕ) → (j < at) ⊎ (at + length run ≤ j) → get_or (with_run ws at run) j 0 ≡ get_or ws j 0
  run_out j out =
      let front : length (take at ws) ≡ at = length-take-le at ws (omega (arith, fits)) in
      elim out [
        | inl l ↦ get_or_append_left (take at ws) (run ++ drop (length run) (drop at ws)) 0 j (omega (arith, l, front)) ∙ get_or-take at ws j 0 l
        | inr l ↦
            let place : at + (length run + (j - at - length run)) ≡ j = omega (arith, l) in
            get_or-append_right (take at ws) (run ++ drop (length run) (drop at ws)) at j 0 front (omega (arith, l))
            ∙ get_or-append_right run (drop (length run) (drop at ws)) (length run) (j - at) 0 refl (omega (arith, l))
            ∙ get_or-drop (length run) (drop at ws) (j - at - length run) 0
            ∙ get_or-drop at ws (length run + (j - at - length run)) 0
            ∙ ap (λ n. get_or ws n 0) place
      ]

  run_in : (j : ℕ) → at ≤ j → j < at + length run → get_or (with_run ws at run) j 0 ≡ get_or run (j - at) 0
  run_in j low high =
      let front : length (take at ws) ≡ at = length-take-le at ws (omega (arith, fits)) in
      get_or-append_right (take at ws) (run ++ drop (length run) (drop at ws)) at j 0 front low
      ∙ get_or_append_left run (drop (length run) (drop at ws)) 0 (j - at) (omega (arith, low, high))

-- the head is written, then 0 behind it, then the slots
module _ (old head mid new : List ℕ) (at class format slots word start : ℕ) (inside : at + fresh_words slots ≤ length old) (start_is : start ≡ fresh_start at slots) (long : length head ≡ length old)
    (put : mid ≡ set head (start + 1) 0) (filled : new ≡ with_run mid (start + 1) (replicate slots word)) where
  abbrev run : List ℕ
  run = replicate slots word

  run_long : length run ≡ slots
  run_long = length-replicate slots word

  mid_long : length mid ≡ length old
  mid_long = ap length put ∙ simp length-set long

  fits : start + 1 + length run ≤ length mid
  fits = let p = fresh_places at slots in omega (arith, p.end, inside, start_is, run_long, mid_long)

  -- what stands before the slots and behind the run
  head_stays : (j : ℕ) → (j ≤ start) ⊎ (at + fresh_words slots ≤ j) → get_or new j 0 ≡ get_or head j 0
  head_stays j out =
      let p = fresh_places at slots in
      let apart : j ≢ start + 1 = λ e. elim out [ inl l ↦ omega (arith, l, e) | inr l ↦ omega (arith, l, e, p.end, start_is) ] in
      let beside : (j < start + 1) ⊎ (start + 1 + length run ≤ j) = elim out [ inl l ↦ inl (omega (arith, l)) | inr l ↦ inr (omega (arith, l, p.end, start_is, run_long)) ] in
      ap (λ ws. get_or ws j 0) filled ∙ run_out mid run (start + 1) fits j beside ∙ ap (λ ws. get_or ws j 0) put ∙ rw get_or-set_other refl

  pub object_others : SameOutside old head at (fresh_words slots) → SameOutside old new at (fresh_words slots)
  object_others others j out =
      let p = fresh_places at slots in
      head_stays j (elim out [ inl l ↦ inl (omega (arith, l, p.low, start_is)) | inr l ↦ inr l ]) ∙ others j out

  pub object_written : (is_long slots ≡ true → (count_of (get_or head at 0) ≡ 255) × (overflow_slots_of (get_or head at 0) ≡ slots))
      → IsFreshHeader (get_or head start 0) (cond (is_long slots) 255 slots) class format → IsFreshRun new at class format slots word
  object_written overflow header =
      let p = fresh_places at slots in
      let first : get_or new at 0 ≡ get_or head at 0 = head_stays at (inl (omega (arith, p.low, start_is))) in
      let own : get_or head start 0 ≡ get_or new (fresh_start at slots) 0 = sym (head_stays start (inl (omega arith))) ∙ ap (λ n. get_or new n 0) start_is in
      record {
        overflow = λ on. (ap count_of first ∙ (overflow on).0, ap overflow_slots_of first ∙ (overflow on).1);
        header = subst (λ w. IsFreshHeader w (cond (is_long slots) 255 slots) class format) own header;
        filled = λ j low high.
            ap (λ ws. get_or ws j 0) filled ∙ run_in mid run (start + 1) fits j (omega (arith, low, start_is)) (omega (arith, high, start_is, run_long))
            ∙ get_or-replicate slots (j - (start + 1)) word 0 (omega (arith, low, high, start_is));
      }

-- the run in words that have the same there
pub fresh_run_kept : (words new : List ℕ) (at class format slots fill : ℕ) → IsFreshRun words at class format slots fill → ((j : ℕ) → at ≤ j → j < at + fresh_words slots → get_or new j 0 ≡ get_or words j 0)
    → IsFreshRun new at class format slots fill
fresh_run_kept words new at class format slots fill k same =
    let p = fresh_places at slots in
    let first : get_or new at 0 ≡ get_or words at 0 = same at (omega arith) (omega (arith, p.some)) in
    record {
      overflow = λ on. (ap count_of first ∙ (k.overflow on).0, ap overflow_slots_of first ∙ (k.overflow on).1);
      header = subst (λ w. IsFreshHeader w (cond (is_long slots) 255 slots) class format) (sym (same (fresh_start at slots) p.low (omega (arith, p.end)))) k.header;
      filled = λ j low high. same j (omega (arith, low, p.low)) (omega (arith, high, p.end)) ∙ k.filled j low high;
    }

-- ---- the chunk and the object

module _ (words : List ℕ) (at class format slots fill : ℕ) (k : IsFreshRun words at class format slots fill) where
  header_count : count_of (get_or words (fresh_start at slots) 0) ≡ cond (is_long slots) 255 slots
  header_count = ap (λ (f : Fields). f.count) k.header.fields

  long_chunk : is_long slots ≡ true → IsChunk words at (record { at = at; start = at + 1; size = 2 + slots; slots = slots })
  unfolding chunk_of
  long_chunk on =
      let f = k.overflow on in
      let is : leads (get_or words at 0) ≡ true = ap (λ n. eqb n 255) f.0 in
      let count : count_of (get_or words (at + 1) 0) ≡ 255 = subst (λ b. count_of (get_or words (cond b (at + 1) at) 0) ≡ cond b 255 slots) on header_count in
      let l = ltb-true 254 slots on in
      let size : 2 + slots ≡ 2 + max 1 slots = omega (arith, l) in
      record {
        is = rw (is, f.1, ← size) refl;
        twice = ap (λ n. eqb n 255) count ∙ sym is;
      }

  short_chunk : is_long slots ≡ false → IsChunk words at (record { at = at; start = at; size = 1 + max 1 slots; slots = slots })
  unfolding chunk_of
  short_chunk off =
      let count : count_of (get_or words at 0) ≡ slots = subst (λ b. count_of (get_or words (cond b (at + 1) at) 0) ≡ cond b 255 slots) off header_count in
      let l = ltb-false 254 slots off in
      let not_long : leads (get_or words at 0) ≡ false = ap (λ n. eqb n 255) count ∙ ne_eqb slots 255 (λ e. omega (arith, l, e)) in
      record {
        is = rw (not_long, count) refl;
        twice = refl;
      }

  pub fresh_is_chunk : IsChunk words at (fresh_chunk at slots)
  fresh_is_chunk = elim (cases_Bool (is_long slots)) [
    | inl on ↦ subst (λ b. IsChunk words at (record { at = at; start = cond b (at + 1) at; size = cond b (2 + slots) (1 + max 1 slots); slots = slots })) (sym on) (long_chunk on)
    | inr off ↦ subst (λ b. IsChunk words at (record { at = at; start = cond b (at + 1) at; size = cond b (2 + slots) (1 + max 1 slots); slots = slots })) (sym off) (short_chunk off)
  ]

  slots_are : at + fresh_words slots ≤ length words → slots_of words (fresh_chunk at slots) ≡ replicate slots fill
  slots_are inside =
      let p = fresh_places at slots in
      let start : ℕ = fresh_start at slots in
      let behind : length (drop (start + 1) words) ≡ length words - (start + 1) = length-drop (start + 1) words in
      let long : length (take slots (drop (start + 1) words)) ≡ slots = length-take-le slots (drop (start + 1) words) (omega (arith, behind, p.end, inside)) in
      ext_get_or 0 (take slots (drop (start + 1) words)) (replicate slots fill) (long ∙ sym (length-replicate slots fill)) (λ i l.
      let low : i < slots = omega (arith, l, long) in
      get_or-take slots (drop (start + 1) words) i 0 low ∙ get_or-drop (start + 1) words i 0 ∙ k.filled (start + 1 + i) (omega arith) (omega (arith, low)) ∙ sym (get_or-replicate slots i fill 0 low))

  pub fresh_is_there : at + fresh_words slots ≤ length words → class ≢ 0 → class ≢ 8 → read_cell heap_to words (fresh_chunk at slots) ≡ There (fresh_body class format slots fill)
  unfolding read_cell
  fresh_is_there inside some other =
      let start : ℕ = fresh_start at slots in
      let next : ℕ = start_named heap_to words (get_or words (start + 1) 0) in
      (λ x. cell_from (k.header.fields x) next (slots_are inside x))
      ∙ ap (λ b. cond b Empty (cond (eqb class 8) (Moved next) (There (fresh_body class format slots fill)))) (ne_eqb class 0 some)
      ∙ ap (λ b. cond b (Moved next) (There (fresh_body class format slots fill))) (ne_eqb class 8 other)

  pub fresh_has_bits : (phase : Phase) → HasBits phase (get_or words (fresh_start at slots) 0)
  fresh_has_bits phase = record { marked = λ e. ap (λ (f : Fields). f.marked) k.header.fields; grey = ap (λ (f : Fields). f.grey) k.header.fields; unused = k.header.unused }

  pub fresh_is_forgotten : is_remembered words (fresh_start at slots) ≡ false
  fresh_is_forgotten = ap (λ (f : Fields). eqb f.remembered 1) k.header.fields
