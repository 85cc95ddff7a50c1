-- The chunks of old space, one by one.
use Rattle.std.proofs.Common.{◌≡◌, ℕ, suc, zero, ◌+◌, ◌<◌, ◌≤◌, List, [], ◌∷◌, drop, length, get_or, ap, subst, arith}
use Rattle.object_header.specs.Chunks.{Chunk, chunk_of, Cuts}
use Rattle.spur_graph.specs.Spaces.{old_row, young_row}
use Rattle.spur_graph.specs.Heaps.{View, store_of}
use Rattle.heap_cells.specs.Rows.{starts_of}
use Rattle.heap_cells.proofs.Members.{start-front}
use Rattle.heap_cells.proofs.Cutting.{chunk_of-lies, chunk_of-at, cuts-in_order, ends_after}
use Rattle.spur_heap.specs.Words.{AreSound}

-- the chunk whose first word stands at `at`
abbrev pub chunk_at : List ℕ → ℕ → Chunk
chunk_at words at = chunk_of at (get_or words at 0)

-- the chunk with the number `k` stands at `at`
pub record IsChunkAt (words : List ℕ) (at end k : ℕ) (cs : List Chunk) : Type 0 where
  pub inside : at < end
  pub fits : at + (chunk_at words at).size ≤ end
  pub rest : Cuts words (at + (chunk_at words at).size) end (drop (suc k) cs)
  pub start : get_or (starts_of cs) k 0 ≡ (chunk_at words at).start
  pub room : (chunk_at words at).start + 2 ≤ at + (chunk_at words at).size

pub chunk_stands : (words : List ℕ) (at end k : ℕ) (cs : List Chunk) → Cuts words at end (drop k cs) → k < length cs → IsChunkAt words at end k cs
chunk_stands words at end k [] t l = absurd (omega arith)
chunk_stands words at end zero (c ∷ cs) t l =
    let is : c ≡ chunk_at words at = t.0.is in
    let lies = chunk_of-lies at (get_or words at 0) in
    let rest : Cuts words (at + (chunk_at words at).size) end cs = subst (λ (d : Chunk). Cuts words (at + d.size) end cs) is t.1 in
    let after = ends_after words (at + (chunk_at words at).size) end cs (cuts-in_order words (at + (chunk_at words at).size) end cs rest) in
    record {
      inside = omega (arith, lies.room, lies.lead, lies.before, chunk_of-at at (get_or words at 0), after);
      fits = after;
      rest = rest;
      start = ap (λ (d : Chunk). d.start) is;
      room = omega (arith, lies.room, lies.before);
    }
chunk_stands words at end (suc k) (c ∷ cs) t l =
    let r = chunk_stands words at end k cs t (omega arith) in
    record { inside = r.inside; fits = r.fits; rest = r.rest; start = r.start; room = r.room }

-- one of the first five chunks of old space
pub early : (v : View) → AreSound v → (at j : ℕ) → j < 5 → Cuts v.words at v.spaces.old_end (drop j (old_row v.words v.spaces)) → IsChunkAt v.words at v.spaces.old_end j (old_row v.words v.spaces)
early v k at j l t = chunk_stands v.words at v.spaces.old_end j (old_row v.words v.spaces) t (let five = k.rows.five in omega (arith, l, five))

-- the chunks of old space are the first ones
pub first_old : (v : View) → AreSound v → (j : ℕ) → j < 5 → get_or (store_of v).starts j 0 ≡ get_or (starts_of (old_row v.words v.spaces)) j 0
first_old v k j l = start-front (old_row v.words v.spaces) (young_row v.words v.spaces) j (let five = k.rows.five in omega (arith, l, five))
