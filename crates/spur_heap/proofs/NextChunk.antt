-- A walk over a row of chunks by their sizes: the chunk that the words tell is the next one.
use Rattle.std.proofs.Common.{◌≡◌, ℕ, ◌+◌, ◌<◌, ◌≤◌, List, [], ◌∷◌, get_or, refl, ap, ◌∙◌, subst, arith}
use Rattle.object_header.specs.Chunks.{Chunk, chunk_of, Cuts}
use Rattle.heap_cells.proofs.Cutting.{chunk_of-lies, cuts-in_order, ends_after}

-- the chunk at `at` is the next one, with a word behind its header
pub record IsNext (words : List ℕ) (at end : ℕ) : Type 0 where
  pub after : at ≤ (chunk_of at (get_or words at 0)).start
  pub room : (chunk_of at (get_or words at 0)).start + 2 ≤ at + (chunk_of at (get_or words at 0)).size
  pub fits : at + (chunk_of at (get_or words at 0)).size ≤ end

module _ (words : List ℕ) (at end : ℕ) (rest : List Chunk) (cut : Cuts words at end rest) where
  abbrev here : Chunk
  here = chunk_of at (get_or words at 0)

  -- the rest begins with it
  pub record Meets : Type 0 where
    pub more : List Chunk
    pub is : rest ≡ here ∷ more
    pub tail : Cuts words (at + here.size) end more

  pub meets : at < end → Meets
  meets l = go rest refl cut
    where
      go : (cs : List Chunk) → rest ≡ cs → Cuts words at end cs → Meets
      go [] is t = absurd (omega (arith, t, l))
      go (c ∷ ds) is t = record { more = ds; is = is ∙ ap (λ d. d ∷ ds) t.0.is; tail = subst (λ (d : Chunk). Cuts words (at + d.size) end ds) t.0.is t.1 }

  pub next : at < end → IsNext words at end
  next l =
      let b = chunk_of-lies at (get_or words at 0) in
      let m = meets l in
      record { after = omega (arith, b.lead, b.after); room = omega (arith, b.room, b.before); fits = ends_after words (at + here.size) end m.more (cuts-in_order words (at + here.size) end m.more m.tail) }

  pub none_left : end ≤ at → rest ≡ []
  none_left l = go rest refl cut
    where
      go : (cs : List Chunk) → rest ≡ cs → Cuts words at end cs → rest ≡ []
      go [] is t = is
      go (c ∷ ds) is t =
          let b = chunk_of-lies at (get_or words at 0) in
          let size = ap (λ (d : Chunk). d.size) t.0.is in
          let after = ends_after words (at + c.size) end ds (cuts-in_order words (at + c.size) end ds t.1) in
          absurd (omega (arith, b.room, b.lead, b.after, b.before, size, after, l))
