-- A step of the walk over a range that is cut into chunks.
use Rattle.std.proofs.Common.{◌≡◌, ℕ, ◌+◌, ◌-◌, ◌<◌, ◌≤◌, List, [], ◌∷◌, get_or, sym, ap, ◌∙◌, subst, arith, cond, eqb}
use Rattle.object_header.specs.Chunks.{Chunk, Cuts, chunks_from, row}
use Rattle.heap_cells.proofs.Cutting.{chunk_of-lies, chunk_of-at, ends_after, cuts-in_order, row-is}
use Rattle.object_header.specs.Head.{class_of}
use Rattle.spur_heap.proofs.Walking.{chunk_at}
use Rattle.image_save.specs.Saved.{kept_from}

pub record IsStep (words : List ℕ) (at end : ℕ) (cs : List Chunk) : Type 0 where
  pub is : cs ≡ chunk_at words at ∷ row words (at + (chunk_at words at).size) end
  pub cuts : Cuts words (at + (chunk_at words at).size) end (row words (at + (chunk_at words at).size) end)
  pub fits : at + (chunk_at words at).size ≤ end
  pub from : (chunk_at words at).at ≡ at
  pub start : (chunk_at words at).start + 2 ≤ at + (chunk_at words at).size
  pub after : at ≤ (chunk_at words at).start

step_of : (words : List ℕ) (at end : ℕ) (cs : List Chunk) → Cuts words at end cs → at < end → IsStep words at end cs
step_of words at end [] t l = absurd (omega (arith, t, l))
step_of words at end (c ∷ cs) t l =
    let e : c ≡ chunk_at words at = t.0.is in
    let next : ℕ = at + (chunk_at words at).size in
    let rest : Cuts words next end cs = subst (λ (d : Chunk). Cuts words (at + d.size) end cs) e t.1 in
    let tail : row words next end ≡ cs = row-is words next end cs rest in
    let lies = chunk_of-lies at (get_or words at 0) in
    let here = chunk_of-at at (get_or words at 0) in
    record {
      is = λ i. e i ∷ sym tail i;
      cuts = subst (λ xs. Cuts words next end xs) (sym tail) rest;
      fits = ends_after words next end cs (cuts-in_order words next end cs rest);
      from = here;
      start = omega (arith, lies.room);
      after = omega (arith, lies.lead, here);
    }

pub step : (words : List ℕ) (at end : ℕ) → Cuts words at end (row words at end) → at < end → IsStep words at end (row words at end)
step words at end t l = step_of words at end (row words at end) t l

pub none_left : (words : List ℕ) (at end : ℕ) → end ≤ at → row words at end ≡ []
unfolding chunks_from
none_left words at end l = let none : end - at ≡ 0 = omega (arith, l) in ap (λ n. chunks_from n words at end) none

-- what is kept of a range behind one chunk more
pub kept_step : (words : List ℕ) (at end kept : ℕ) → Cuts words at end (row words at end) → at < end
    → kept_from words kept (row words at end) ≡ kept_from words (cond (eqb (class_of (get_or words (chunk_at words at).start 0)) 0) kept (at + (chunk_at words at).size)) (row words (at + (chunk_at words at).size) end)
unfolding kept_from
kept_step words at end kept t l =
    let s = step words at end t l in
    ap (kept_from words kept) s.is
    ∙ ap (λ n. kept_from words (cond (eqb (class_of (get_or words (chunk_at words at).start 0)) 0) kept (n + (chunk_at words at).size)) (row words (at + (chunk_at words at).size) end)) s.from

pub kept_none : (words : List ℕ) (at end kept : ℕ) → end ≤ at → kept_from words kept (row words at end) ≡ kept
unfolding kept_from
kept_none words at end kept l = ap (kept_from words kept) (none_left words at end l)
