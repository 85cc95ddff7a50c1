-- Old space without the free chunks at its end.
use Rattle.std.proofs.Common.{◌≡◌, ◌⊎◌, ℕ, true, cond, ◌+◌, ◌≤◌, List, [], ◌∷◌, ◌++◌, refl, sym, ap, ◌∙◌, subst, inl, inr, arith}
use Rattle.std.proofs.lemmas.Bool.{cases_Bool}
use Rattle.object_header.specs.Chunks.{Chunk, Cuts, row}
use Rattle.spur_graph.specs.Spaces.{AreRows, old_row, young_row}
use Rattle.spur_graph.specs.Heaps.{View, chunks_of}
use Rattle.heap_cells.proofs.Members.{In, in_either, in_left, in_right}
use Rattle.heap_cells.proofs.Cutting.{first, ends_after, cuts-in_order, row-is}
use Rattle.image_save.specs.Saved.{is_free, kept_from, cut, saved_chunks}

-- the last chunks are free ones, and the chunks before them end where the part that is kept does
pub record Trims (words : List ℕ) (at end e : ℕ) (cs : List Chunk) : Type 0 where
  pub kept : List Chunk
  pub rest : List Chunk
  pub is : cs ≡ kept ++ rest
  pub cuts : Cuts words at (kept_from words e cs) kept
  pub free : (c : Chunk) → In rest c → is_free words c ≡ true
  pub low : kept_from words e cs ≤ end

pub record AllFree (words : List ℕ) (e : ℕ) (cs : List Chunk) : Type 0 where
  pub same : kept_from words e cs ≡ e
  pub free : (c : Chunk) → In cs c → is_free words c ≡ true

split : (words : List ℕ) (at end e : ℕ) (cs : List Chunk) → Cuts words at end cs → AllFree words e cs ⊎ Trims words at end e cs
unfolding kept_from
split words at end e [] t = inl (record { same = refl; free = λ c m. absurd m })
split words at end e (c ∷ cs) t = elim (cases_Bool (is_free words c)) [
  | inl on ↦
      let same : kept_from words e (c ∷ cs) ≡ kept_from words e cs = ap (λ b. kept_from words (cond b e (c.at + c.size)) cs) on in
      elim (split words (at + c.size) end e cs t.1) [
        | inl none ↦ inl (record { same = same ∙ none.same; free = λ d m. elim m [ inl is ↦ subst (λ (d : Chunk). is_free words d ≡ true) is on | inr k ↦ none.free d k ] })
        | inr some ↦ inr (record {
          kept = c ∷ some.kept;
          rest = some.rest;
          is = ap (λ xs. c ∷ xs) some.is;
          cuts = (t.0, subst (λ k. Cuts words (at + c.size) k some.kept) (sym same) some.cuts);
          free = some.free;
          low = omega (arith, same, some.low);
        })
      ]
  | inr off ↦
      let same : kept_from words e (c ∷ cs) ≡ kept_from words (c.at + c.size) cs = ap (λ b. kept_from words (cond b e (c.at + c.size)) cs) off in
      let here : c.at ≡ at = (first words at c t.0).1 in
      let low : at + c.size ≤ end = ends_after words (at + c.size) end cs (cuts-in_order words (at + c.size) end cs t.1) in
      elim (split words (at + c.size) end (c.at + c.size) cs t.1) [
        | inl none ↦ let last : at + c.size ≡ kept_from words e (c ∷ cs) = omega (arith, same, none.same, here) in
            inr (record { kept = c ∷ []; rest = cs; is = refl; cuts = (t.0, last); free = none.free; low = omega (arith, last, low) })
        | inr some ↦ inr (record {
          kept = c ∷ some.kept;
          rest = some.rest;
          is = ap (λ xs. c ∷ xs) some.is;
          cuts = (t.0, subst (λ k. Cuts words (at + c.size) k some.kept) (sym same) some.cuts);
          free = some.free;
          low = omega (arith, same, some.low);
        })
      ]
]

from_start : (words : List ℕ) (end : ℕ) (cs : List Chunk) → Cuts words 0 end cs → Trims words 0 end 0 cs
from_start words end cs t = elim (split words 0 end 0 cs t) [
  | inl none ↦ record { kept = []; rest = cs; is = refl; cuts = sym none.same; free = none.free; low = omega (arith, none.same) }
  | inr some ↦ some
]

-- what is cut out of old space
pub record IsTrimmed (v : View) : Type 0 where
  pub rest : List Chunk
  pub is : old_row v.words v.spaces ≡ row v.words 0 (cut v) ++ rest
  pub cuts : Cuts v.words 0 (cut v) (row v.words 0 (cut v))
  pub free : (c : Chunk) → In rest c → is_free v.words c ≡ true
  pub low : cut v ≤ v.spaces.old_end

pub trim : (v : View) → AreRows v.words v.spaces → IsTrimmed v
unfolding cut
trim v r =
    let t = from_start v.words v.spaces.old_end (old_row v.words v.spaces) r.old in
    let same = row-is v.words 0 (cut v) t.kept t.cuts in
    record {
      rest = t.rest;
      is = t.is ∙ ap (λ xs. xs ++ t.rest) (sym same);
      cuts = subst (λ cs. Cuts v.words 0 (cut v) cs) (sym same) t.cuts;
      free = t.free;
      low = t.low;
    }

-- what is saved is in the heap, and every other chunk of it is a free one
pub saved_in : (v : View) → AreRows v.words v.spaces → (c : Chunk) → In (saved_chunks v) c → In (chunks_of v) c
saved_in v r c m =
    let t = trim v r in
    elim (in_either (row v.words 0 (cut v)) (young_row v.words v.spaces) c m) [
      | inl a ↦ in_left (old_row v.words v.spaces) (young_row v.words v.spaces) c (subst (λ cs. In cs c) (sym t.is) (in_left (row v.words 0 (cut v)) t.rest c a))
      | inr b ↦ in_right (old_row v.words v.spaces) (young_row v.words v.spaces) c b
    ]

pub in_saved : (v : View) → AreRows v.words v.spaces → (c : Chunk) → In (chunks_of v) c → In (saved_chunks v) c ⊎ (is_free v.words c ≡ true)
in_saved v r c m =
    let t = trim v r in
    elim (in_either (old_row v.words v.spaces) (young_row v.words v.spaces) c m) [
      | inl a ↦ elim (in_either (row v.words 0 (cut v)) t.rest c (subst (λ cs. In cs c) t.is a)) [
        | inl x ↦ inl (in_left (row v.words 0 (cut v)) (young_row v.words v.spaces) c x)
        | inr y ↦ inr (t.free c y)
      ]
      | inr b ↦ inl (in_right (row v.words 0 (cut v)) (young_row v.words v.spaces) c b)
    ]

-- what the walk over old space counts
pub cut_told : (v : View) (words : List ℕ) (n : ℕ) → words ≡ v.words → n ≡ kept_from words 0 (row words 0 v.spaces.old_end) → n ≡ cut v
unfolding cut
cut_told v words n same is = is ∙ ap (λ ws. kept_from ws 0 (row ws 0 v.spaces.old_end)) same
