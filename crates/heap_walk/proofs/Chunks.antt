-- A chunk that was read is the first of each row that cuts its range.
use Rattle.std.proofs.Common.{◌≡◌, ℕ, ◌+◌, ◌<◌, ◌≤◌, List, [], ◌∷◌, length, get_or, slice_range, refl, sym, subst, arith, Ok}
use Rattle.object_header.specs.declared.head.Head.{Head}
use Rattle.object_header.specs.Chunks.{Chunk as RowChunk, chunk_of, IsChunk, Cuts}
use Rattle.object_header.specs.Head.{head_of}
use Rattle.object_header.proofs.Chunks.{chunk-told}
use Rattle.heap_walk.specs.declared.chunk.Chunk.{Chunk}
use Rattle.heap_walk.specs.declared.chunk.ChunkKind.{ChunkKind}
use Rattle.heap_walk.specs.Chunks.{IsPlacedAs, IsFirstOf}

module _ (words : List ℕ) (end at : ℕ) (h : Head) (kind : ChunkKind) where
  abbrev here : RowChunk
  here = chunk_of at (get_or words at 0)

  abbrev read : Chunk
  read = record { at = at; start = at + h.lead; words = h.words; kind = kind }

  pub read_stands : end ≤ length words → at < end → head_of (slice_range words at end) ≡ Ok h → IsChunk words at here
  read_stands within l ok = (chunk-told words end at h within l ok).chunk

  pub read_in_place : end ≤ length words → at < end → head_of (slice_range words at end) ≡ Ok h → IsPlacedAs read here
  unfolding chunk_of
  read_in_place within l ok = let t = chunk-told words end at h within l ok in record { at = refl; start = sym t.start; words = sym t.size }

  pub read_first : end ≤ length words → at < end → head_of (slice_range words at end) ≡ Ok h → (cs : List RowChunk) → Cuts words at end cs → IsFirstOf words end cs read
  read_first within l ok [] cut = absurd (omega (arith, cut, l))
  read_first within l ok (d ∷ ds) cut =
      let to : IsPlacedAs read d = subst (λ (x : RowChunk). IsPlacedAs read x) (sym cut.0.is) (read_in_place within l ok) in
      (to, subst (λ n. Cuts words (at + n) end ds) (sym to.words) cut.1)
