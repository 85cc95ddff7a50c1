-- Which chunk has a word, and where the next one begins.
use Rattle.std.proofs.Common.{◌≡◌, ℕ, cond, ◌+◌, ◌<◌, ◌≤◌, List, [], ◌∷◌, refl, sym, ap, ◌∙◌, subst, inl, inr, arith}
use Rattle.std.proofs.lemmas.Bool.{lt-ltb, le-ltb}
use Rattle.object_header.specs.Chunks.{Chunk, Cuts, InOrder}
use Rattle.heap_cells.proofs.Members.{In}
use Rattle.heap_cells.proofs.Cutting.{first, head, stands, cuts-in_order}
use Rattle.image_save.specs.Saved.{chunk_over}

pub over_is : (words : List ℕ) (at end q : ℕ) (cs : List Chunk) (c : Chunk) → InOrder words at end cs → In cs c → c.at ≤ q → q < c.at + c.size → chunk_over cs q ≡ c
unfolding chunk_over
over_is words at end q [] c t m low high = absurd m
over_is words at end q (d ∷ cs) c t m low high = elim m [
  | inl is ↦ let here : q < d.at + d.size = subst (λ (d : Chunk). q < d.at + d.size) (sym is) high in
      ap (λ b. cond b d (chunk_over cs q)) (lt-ltb q (d.at + d.size) here) ∙ is
  | inr k ↦ let after = behind words (d.at + d.size) end cs c t.1.1 k in
      ap (λ b. cond b d (chunk_over cs q)) (le-ltb q (d.at + d.size) (omega (arith, after, low))) ∙ over_is words (d.at + d.size) end q cs c t.1.1 k low high
]
  where
    behind : (words : List ℕ) (at end : ℕ) (cs : List Chunk) (c : Chunk) → InOrder words at end cs → In cs c → at ≤ c.at
    behind words at end [] c t m = absurd m
    behind words at end (d ∷ cs) c t m = elim m [
      | inl is ↦ subst (λ (d : Chunk). at ≤ d.at) is t.0
      | inr k ↦ let low = behind words (d.at + d.size) end cs c t.1.1 k in let r = head words at end d cs t in omega (arith, t.0, low, r.lead, r.room)
    ]

-- a range that is not empty begins with a chunk
pub begins : (words : List ℕ) (at end : ℕ) (cs : List Chunk) → Cuts words at end cs → at < end → (c : Chunk) × In cs c × (c.at ≡ at)
begins words at end [] t l = absurd (omega (arith, t, l))
begins words at end (c ∷ cs) t l = (c, inl refl, (first words at c t.0).1)

-- behind a chunk the range ends, or the next one begins
pub next : (words : List ℕ) (at end : ℕ) (cs : List Chunk) (c : Chunk) → Cuts words at end cs → In cs c → c.at + c.size < end → (d : Chunk) × In cs d × (d.at ≡ c.at + c.size)
next words at end [] c t m l = absurd m
next words at end (d ∷ cs) c t m l = elim m [
  | inl is ↦
      let here : d.at ≡ at = (first words at d t.0).1 in
      let same : d.at + d.size ≡ c.at + c.size = ap (λ (d : Chunk). d.at + d.size) is in
      let b = begins words (at + d.size) end cs t.1 (omega (arith, same, here, l)) in
      (b.0, inr b.1, omega (arith, b.2, here, same))
  | inr k ↦ let n = next words (at + d.size) end cs c t.1 k l in (n.0, inr n.1, n.2)
]

-- a chunk of a range is inside it
pub inside : (words : List ℕ) (at end : ℕ) (cs : List Chunk) (c : Chunk) → Cuts words at end cs → In cs c → (at ≤ c.at) × (c.at + c.size ≤ end)
inside words at end cs c t m = let s = stands words at end cs c (cuts-in_order words at end cs t) m in (s.lies.after, s.lies.before)
