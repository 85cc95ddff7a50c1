-- The first five chunks are saved, and are the first five of the file.
use Rattle.std.proofs.Common.{◌≡◌, ℕ, suc, zero, true, false, not, ◌||◌, eqb, ◌<◌, ◌≤◌, List, [], ◌∷◌, ◌++◌, map, length, get_or, refl, sym, ap, ◌∙◌, subst, inl, inr, arith, length-append, Option}
use Rattle.std.proofs.lemmas.Bool.{cases_lt, false≢true}
use Rattle.std.proofs.lemmas.List.{length-map}
use Rattle.object_header.specs.Head.{class_of}
use Rattle.object_header.specs.Chunks.{Chunk, row}
use Rattle.spur_graph.specs.Cells.{first, is_there}
use Rattle.spur_graph.specs.Spaces.{old_row, young_row}
use Rattle.spur_graph.specs.Heaps.{View, IsWhole, store_of, chunks_of}
use Rattle.heap_cells.specs.Rows.{starts_of}
use Rattle.heap_cells.proofs.Members.{In, in_left, in_right, start-front}
use Rattle.image_save.specs.Saved.{is_free, cut, saved_chunks, file_place, has_object}
use Rattle.image_save.specs.Denotes.{placed_chunk, placed_chunks}
use Rattle.image_save.proofs.Trims.{trim}
use Rattle.image_save.proofs.Parts.{seen_in}
use Rattle.image_save.proofs.Moves.{object_placed}
use Rattle.image_save.proofs.Objects.{new}

at_seam : (xs ys zs : List Chunk) (y : Chunk) → get_or (starts_of ((xs ++ y ∷ ys) ++ zs)) (length xs) 0 ≡ y.start
at_seam [] ys zs y = refl
at_seam (x ∷ xs) ys zs y = at_seam xs ys zs y

-- where an object starts, its chunk goes to its place
at_placed : (v : View) (xs : List Chunk) (j : ℕ) → j < length xs → has_object v (get_or (starts_of xs) j 0) ≡ true → get_or (starts_of (map (placed_chunk v) xs)) j 0 ≡ file_place v (get_or (starts_of xs) j 0)
at_placed v [] j l on = absurd (omega (arith, l))
at_placed v (x ∷ xs) zero l on = ap (λ (c : Chunk). c.start) (object_placed v x on)
at_placed v (x ∷ xs) (suc j) l on = at_placed v xs j (omega (arith, l)) on

abbrev no_chunks : List Chunk
no_chunks = []

module _ (v : View) (whole : IsWhole v) where
  abbrev kept : List Chunk
  kept = row v.words 0 (cut v)

  -- a free chunk is none of the first five
  kept_more : (ys : List Chunk) → old_row v.words v.spaces ≡ kept ++ ys → ((c : Chunk) → In ys c → is_free v.words c ≡ true) → length kept < 5 → ⊥
  kept_more [] is free l = let five = whole.rows.five in let a = ap length is in let b = length-append kept no_chunks in omega (arith, five, a, b, l)
  kept_more (y ∷ ys) is free l =
      let at : first (store_of v) (length kept) ≡ y.start = ap (λ cs. get_or (starts_of (cs ++ young_row v.words v.spaces)) (length kept) 0) is ∙ at_seam kept ys (young_row v.words v.spaces) y in
      let there : is_there ((store_of v).cell y.start) ≡ true = ap (λ s. is_there ((store_of v).cell s)) (sym at) ∙ whole.sound.roots.objects (length kept) l in
      let member : In (chunks_of v) y = in_left (old_row v.words v.spaces) (young_row v.words v.spaces) y (subst (λ cs. In cs y) (sym is) (in_right kept (y ∷ ys) y (inl refl))) in
      let off : is_there ((store_of v).cell y.start) ≡ false = (seen_in v whole y member).there ∙ ap (λ b. not (b || eqb (class_of (get_or v.words y.start 0)) 8)) (free y (inl refl)) in
      false≢true (sym off ∙ there)

  kept_five : 5 ≤ length kept
  kept_five = elim (cases_lt (length kept) 5) [
    | inl l ↦ absurd (kept_more (trim v whole.rows).rest (trim v whole.rows).is (trim v whole.rows).free l)
    | inr l ↦ l
  ]

  pub first_placed : (to : ℕ → Option ℕ) (j : ℕ) → j < 5 → first (new v whole to) j ≡ file_place v (first (store_of v) j)
  first_placed to j l =
      let t = trim v whole.rows in
      let young : List Chunk = young_row v.words v.spaces in
      let five = kept_five in
      let k : j < length kept = omega (arith, l, five) in
      let in_saved : j < length (kept ++ young) = let n = length-append kept young in omega (arith, k, n) in
      let in_old : j < length (kept ++ t.rest) = let n = length-append kept t.rest in omega (arith, k, n) in
      let before : first (store_of v) j ≡ get_or (starts_of kept) j 0 =
      ap (λ cs. get_or (starts_of (cs ++ young)) j 0) t.is ∙ start-front (kept ++ t.rest) young j in_old ∙ start-front kept t.rest j k in
      let same : get_or (starts_of (kept ++ young)) j 0 ≡ first (store_of v) j = start-front kept young j k ∙ sym before in
      at_placed v (kept ++ young) j in_saved (ap (has_object v) same ∙ whole.sound.roots.objects j l) ∙ ap (file_place v) same

  pub five_placed : (to : ℕ → Option ℕ) → 5 ≤ length (new v whole to).starts
  five_placed to =
      let five = kept_five in
      let a = length-map (placed_chunks v) (λ (c : Chunk). c.start) in
      let b = length-map (saved_chunks v) (placed_chunk v) in
      let c = length-append kept (young_row v.words v.spaces) in
      omega (arith, five, a, b, c)
