-- The cursor on its way.
use Rattle.std.proofs.Common.{◌≡◌, ℕ, Bool, true, false, cond, ◌+◌, ◌-◌, ◌<◌, ◌≤◌, refl, sym, ap, ◌∙◌, arith, Some, None}
use Rattle.std.proofs.lemmas.Bool.{lt-ltb, le-ltb}
use Rattle.object_header.specs.Chunks.{Chunk}
use Rattle.spur_graph.specs.Heaps.{View, IsWhole}
use Rattle.heap_cells.proofs.Members.{in_list}
use Rattle.image_save.specs.Saved.{region_place, file_words, saved_chunks, object_word, free_word, has_object, value_count, saved_at, saved_word, chunk_over}
use Rattle.image_save.specs.Places.{Covers, IsAt, IsReady}
use Rattle.image_save.specs.declared.cursor.Cursor.{Cursor}
use Rattle.image_save.proofs.Parts.{rises, next_begins, first_begins, over_covers}

pub ready_next : (v : View) (whole : IsWhole v) (i : ℕ) (cursor : Cursor) → IsAt v (region_place v i) cursor → IsReady v (i + 1) cursor
ready_next v whole i cursor a =
    let c = a.chunk in
    let end = a.end_is in
    record {
      at = λ l before. record {
        chunk = c;
        covers = record { saved = a.covers.saved; from = let r = rises v whole i l in omega (arith, r, a.covers.from); to = omega (arith, before, end) };
        at_is = a.at_is;
        start_is = a.start_is;
        end_is = a.end_is;
        pointers_are = a.pointers_are;
      };
      next = λ l behind. next_begins v whole i c (in_list (saved_chunks v) c a.covers.saved) l a.covers.from a.covers.to (omega (arith, behind, end));
    }

pub ready_first : (v : View) → IsWhole v → (cursor : Cursor) → cursor.end ≡ 0 → IsReady v 0 cursor
ready_first v whole cursor e = record {
  at = λ l before. absurd (omega (arith, before, e));
  next = λ l behind. first_begins v whole l;
}

pub word_behind : (v : View) (i : ℕ) → file_words v ≤ i → saved_word v i ≡ 0
unfolding saved_word
word_behind v i l = ap (λ b. cond b (saved_at v (chunk_over (saved_chunks v) (region_place v i)) (region_place v i)) 0) (le-ltb i (file_words v) l)

-- a word of the file by its chunk
pub word_is : (v : View) (whole : IsWhole v) (i : ℕ) (c : Chunk) → i < file_words v → Covers v c (region_place v i) → saved_word v i ≡ saved_at v c (region_place v i)
unfolding saved_word
word_is v whole i c l k =
    ap (λ b. cond b (saved_at v (chunk_over (saved_chunks v) (region_place v i)) (region_place v i)) 0) (lt-ltb i (file_words v) l)
    ∙ ap (λ (c : Chunk). saved_at v c (region_place v i)) (over_covers v whole c (region_place v i) k)

-- ---- a word as it is saved, by the cursor at its chunk

told_true : (b : Bool) (m n : ℕ) → cond b (Some m) None ≡ Some n → b ≡ true
told_true true m n e = refl
told_true false m n e = absurd cc

told_false : (b : Bool) (m : ℕ) → cond b (Some m) None ≡ None → b ≡ false
told_false true m e = absurd cc
told_false false m e = refl

module _ (v : View) (whole : IsWhole v) (q : ℕ) (cursor : Cursor) (a : IsAt v q cursor) where
  -- one chunk alone has the word
  same : (c : Chunk) → Covers v c q → a.chunk ≡ c
  same c k = sym (over_covers v whole a.chunk q a.covers) ∙ over_covers v whole c q k

  pub object_at : (n : ℕ) → cursor.pointers ≡ Some n → (c : Chunk) → Covers v c q → object_word v cursor.start q ≡ saved_at v c q
  unfolding saved_at
  object_at n is c k =
      let d : Chunk = a.chunk in
      let on = told_true (has_object v d.start) (value_count v d.start) n (sym a.pointers_are ∙ is) in
      ap (λ s. object_word v s q) a.start_is ∙ sym (ap (λ b. cond b (object_word v d.start q) (free_word d.size (q - d.at))) on) ∙ ap (λ (x : Chunk). saved_at v x q) (same c k)

  pub free_at : cursor.pointers ≡ None → (c : Chunk) → Covers v c q → free_word (cursor.end - cursor.at) (q - cursor.at) ≡ saved_at v c q
  unfolding saved_at
  free_at is c k =
      let d : Chunk = a.chunk in
      let off = told_false (has_object v d.start) (value_count v d.start) (sym a.pointers_are ∙ is) in
      let size : cursor.end - cursor.at ≡ d.size = omega (arith, a.at_is, a.end_is) in
      (λ i. free_word (size i) (q - a.at_is i)) ∙ sym (ap (λ b. cond b (object_word v d.start q) (free_word d.size (q - d.at))) off) ∙ ap (λ (x : Chunk). saved_at v x q) (same c k)
