-- The words of a saved file are cut into the chunks that are saved, under their places.
use Rattle.std.proofs.Common.{◌≡◌, ℕ, ◌+◌, ◌-◌, ◌<◌, List, [], ◌∷◌, ◌++◌, map, length, refl, sym, ap, ◌∙◌, subst, inl, inr, arith}
use Rattle.std.proofs.lemmas.Bool.{cases_Bool}
use Rattle.std.proofs.lemmas.List.{map-append}
use Rattle.object_header.specs.Chunks.{Chunk, IsChunk, Cuts, row}
use Rattle.spur_graph.specs.Spaces.{eden_row, past_row, young_row}
use Rattle.spur_graph.specs.Heaps.{View, IsWhole}
use Rattle.heap_cells.proofs.Members.{In}
use Rattle.heap_cells.proofs.Cutting.{first, ends_after, Cuts-append, cuts-in_order}
use Rattle.image_save.specs.Saved.{has_object, saved_words, saved_chunks, file_place, cut}
use Rattle.image_save.specs.Denotes.{placed_chunk, placed_chunks}
use Rattle.image_save.proofs.Trims.{trim}
use Rattle.image_save.proofs.Placing.{file_old, file_eden, file_past}
use Rattle.image_save.proofs.Over.{inside}
use Rattle.image_save.proofs.Parts.{spaced, seen, old_in, eden_in, past_in}
use Rattle.image_save.proofs.Moves.{object_placed, free_placed, words_long, chunk_saved}

-- no chunk changes its size
same_size : (v : View) (c : Chunk) → (placed_chunk v c).size ≡ c.size
same_size v c = elim (cases_Bool (has_object v c.start)) [
  | inl on ↦ ap (λ (d : Chunk). d.size) (object_placed v c on)
  | inr off ↦ ap (λ (d : Chunk). d.size) (free_placed v c off)
]

module _ (v : View) (whole : IsWhole v) where
  -- a range goes to a range
  moved_cuts : (words : List ℕ) (at end at' : ℕ) (cs : List Chunk) → Cuts words at end cs → ((c : Chunk) → In cs c → In (saved_chunks v) c × (file_place v c.at + at ≡ c.at + at')) → Cuts (saved_words v) at' (at' + (end - at)) (map (placed_chunk v) cs)
  moved_cuts words at end at' [] t k = omega (arith, t)
  moved_cuts words at end at' (c ∷ cs) t k =
      let here = k c (inl refl) in
      let c_at = (first words at c t.0).1 in
      let same : file_place v c.at ≡ at' = omega (arith, here.1, c_at) in
      let fits = ends_after words (at + c.size) end cs (cuts-in_order words (at + c.size) end cs t.1) in
      let rest = moved_cuts words (at + c.size) end (at' + c.size) cs t.1 (λ d m. let r = k d (inr m) in (r.0, omega (arith, r.1))) in
      let end_is : at' + c.size + (end - (at + c.size)) ≡ at' + (end - at) = omega (arith, fits) in
      let size : at' + c.size ≡ at' + (placed_chunk v c).size = ap (λ n. at' + n) (sym (same_size v c)) in (
        subst (λ n. IsChunk (saved_words v) n (placed_chunk v c)) same (chunk_saved v whole c here.0),
        subst (λ n. Cuts (saved_words v) n (at' + (end - at)) (map (placed_chunk v) cs)) size (subst (λ n. Cuts (saved_words v) (at' + c.size) n (map (placed_chunk v) cs)) end_is rest),
      )

  -- the file's words are cut into the chunks
  pub saved_cuts : Cuts (saved_words v) 0 (length (saved_words v)) (placed_chunks v)
  saved_cuts =
      let p = spaced v whole in
      let t = trim v whole.rows in
      let a = moved_cuts v.words 0 (cut v) 0 (row v.words 0 (cut v)) t.cuts (λ c m. (old_in v whole c m, old_place c m)) in
      let b = moved_cuts v.words v.spaces.eden_at (v.spaces.eden_at + v.spaces.eden_used) (cut v) (eden_row v.words v.spaces) whole.rows.eden (λ c m. (eden_in v whole c m, eden_place c m)) in
      let d = moved_cuts v.words v.spaces.past_at (v.spaces.past_at + v.spaces.past_used) (cut v + v.spaces.eden_used) (past_row v.words v.spaces) whole.rows.past (λ c m. (past_in v whole c m, past_place c m)) in
      let W : List ℕ = saved_words v in
      let ea : 0 + (cut v - 0) ≡ cut v = omega arith in
      let eb : cut v + (v.spaces.eden_at + v.spaces.eden_used - v.spaces.eden_at) ≡ cut v + v.spaces.eden_used = omega arith in
      let ed : cut v + v.spaces.eden_used + (v.spaces.past_at + v.spaces.past_used - v.spaces.past_at) ≡ length W = omega (arith, words_long v whole) in
      let young = Cuts-append W (cut v) (cut v + v.spaces.eden_used) (length W) (map (placed_chunk v) (eden_row v.words v.spaces)) (map (placed_chunk v) (past_row v.words v.spaces))
      (subst (λ n. Cuts W (cut v) n (map (placed_chunk v) (eden_row v.words v.spaces))) eb b) (subst (λ n. Cuts W (cut v + v.spaces.eden_used) n (map (placed_chunk v) (past_row v.words v.spaces))) ed d) in
      let whole_row = Cuts-append W 0 (cut v) (length W) (map (placed_chunk v) (row v.words 0 (cut v))) (map (placed_chunk v) (eden_row v.words v.spaces) ++ map (placed_chunk v) (past_row v.words v.spaces))
      (subst (λ n. Cuts W 0 n (map (placed_chunk v) (row v.words 0 (cut v)))) ea a) young in
      let joined : map (placed_chunk v) (saved_chunks v) ≡ map (placed_chunk v) (row v.words 0 (cut v)) ++ (map (placed_chunk v) (eden_row v.words v.spaces) ++ map (placed_chunk v) (past_row v.words v.spaces)) =
      map-append (placed_chunk v) (row v.words 0 (cut v)) (young_row v.words v.spaces) ∙ ap (λ cs. map (placed_chunk v) (row v.words 0 (cut v)) ++ cs) (map-append (placed_chunk v) (eden_row v.words v.spaces) (past_row v.words v.spaces)) in
      subst (λ cs. Cuts W 0 (length W) cs) (sym joined) whole_row
    where
      some : (c : Chunk) → In (saved_chunks v) c → c.at < c.at + c.size
      some c m = let s = (seen v whole c m).lies in omega (arith, s.lead, s.room)

      old_place : (c : Chunk) → In (row v.words 0 (cut v)) c → file_place v c.at + 0 ≡ c.at + 0
      old_place c m = let i = inside v.words 0 (cut v) (row v.words 0 (cut v)) c (trim v whole.rows).cuts m in let s = some c (old_in v whole c m) in let is = file_old v c.at (omega (arith, i.1, s)) in omega (arith, is)

      eden_place : (c : Chunk) → In (eden_row v.words v.spaces) c → file_place v c.at + v.spaces.eden_at ≡ c.at + cut v
      eden_place c m =
          let i = inside v.words v.spaces.eden_at (v.spaces.eden_at + v.spaces.eden_used) (eden_row v.words v.spaces) c whole.rows.eden m in
          let s = some c (eden_in v whole c m) in
          let p = spaced v whole in
          let is = file_eden v c.at (omega (arith, i.0, p.old)) (omega (arith, i.1, s)) in
          omega (arith, is, i.0)

      past_place : (c : Chunk) → In (past_row v.words v.spaces) c → file_place v c.at + v.spaces.past_at ≡ c.at + (cut v + v.spaces.eden_used)
      past_place c m =
          let i = inside v.words v.spaces.past_at (v.spaces.past_at + v.spaces.past_used) (past_row v.words v.spaces) c whole.rows.past m in
          let p = spaced v whole in
          let is = file_past v c.at (omega (arith, i.0, p.old, p.eden)) (omega (arith, i.0, p.eden)) in
          omega (arith, is, i.0)
