-- A range in which no chunk is refused is a row of chunks, and the walk over it meets each of them.
use Rattle.std.proofs.Common.{◌≡◌, ◌≢◌, ℕ, suc, zero, true, ◌+◌, ◌-◌, ◌<◌, ◌≤◌, List, ◌∷◌, length, get_or, refl, sym, ap, ◌∙◌, subst, inl, inr, arith, Option, Result, Ok, Err}
use Rattle.std.proofs.lemmas.Bool.{false≢true, cases_eq, cases_lt, ne_eqb, eq-eqb, lt-ltb, le-ltb}
use Rattle.object_header.specs.Fields.{Fields, fields_of}
use Rattle.object_header.specs.declared.head.Head.{Head}
use Rattle.object_header.specs.declared.head.HeadError.{HeadError}
use Rattle.object_header.specs.Chunks.{Chunk, chunk_of, IsChunk, Cuts, chunks_from, slots_from}
use Rattle.spur_graph.specs.Cells.{read_cell, cell_in, cell_from, body_from, body_of, start_named, is_there, is_formed}
use Rattle.spur_graph.specs.Places.{head_at, size_of, after, place}
use Rattle.heap_cells.specs.Rows.{AllRead, CutsFormed}
use Rattle.heap_cells.proofs.CellKinds.{there_starts}
use Rattle.heap_cells.proofs.Members.{In}
use Rattle.heap_cells.proofs.Cutting.{first, stands, shape, cell-at, start-in, cuts-in_order}
use Rattle.heap_cells.proofs.Starts.{read_cell-is}
use Rattle.heap_cells.proofs.HeadReads.{from-head}

-- ---- the walk

pub after-ok : (words : List ℕ) (end at : ℕ) (h : Head) → at < end → head_at words end at ≡ Ok h → after words end at ≡ at + h.words
unfolding after
after-ok words end at h l is = rw (lt-ltb at end l) (ap (λ r. at + size_of r) is)

pub after-end : (words : List ℕ) (end at : ℕ) → end ≤ at → after words end at ≡ at
unfolding after
after-end words end at l = rw (le-ltb at end l) refl

pub next_place : (words : List ℕ) (from end k at : ℕ) → place words from end k ≡ at → place words from end (suc k) ≡ after words end at
unfolding place
next_place words from end k at is = ap (after words end) is

pub first_place : (words : List ℕ) (from end : ℕ) → place words from end 0 ≡ from
unfolding place
first_place words from end = refl

-- ---- chunks whose heads were read

pub record ReadIn (words : List ℕ) (end : ℕ) (c : Chunk) : Type 0 where
  pub head : Head
  pub inside : c.at < end
  pub read : head_at words end c.at ≡ Ok head

abbrev pub AreRead : List ℕ → ℕ → List Chunk → Type 0
AreRead words end cs = (c : Chunk) → In cs c → ReadIn words end c

record FromThere (f : Fields) (next : ℕ) (ws : List ℕ) : Type 0 where
  not_free : f.class ≢ 0
  not_moved : f.class ≢ 8
  body : body_of (cell_from f next ws) ≡ body_from f ws

from_there : (f : Fields) (next : ℕ) (ws : List ℕ) → is_there (cell_from f next ws) ≡ true → FromThere f next ws
from_there f next ws k = elim (cases_eq f.class 0) [
  | inl e ↦ absurd (false≢true (rw (eq-eqb f.class 0 e) at k))
  | inr n ↦ elim (cases_eq f.class 8) [
    | inl e ↦ absurd (false≢true (rw (ne_eqb f.class 0 n, eq-eqb f.class 8 e) at k))
    | inr o ↦ record { not_free = n; not_moved = o; body = rw (ne_eqb f.class 0 n, ne_eqb f.class 8 o) refl }
  ]
]

-- an object whose head was read is formed
chunk-formed : (to : ℕ → Option ℕ) (words : List ℕ) (end : ℕ) (c : Chunk) → end ≤ length words → IsChunk words c.at c → ReadIn words end c → is_there (read_cell to words c) ≡ true → is_formed (body_of (read_cell to words c)) ≡ true
chunk-formed to words end c within k r there =
    let g = from-head words end c.at r.head within r.inside r.read in
    let start : c.at + r.head.lead ≡ c.start = sym g.start ∙ ap (λ (x : Chunk). x.start) (sym k.is) in
    let header : r.head.header ≡ get_or words c.start 0 = g.header ∙ ap (λ n. get_or words n 0) start in
    let cell = read_cell-is to words c (shape words c k).slots in
    let f = from_there (fields_of (get_or words c.start 0)) (start_named to words (get_or words (c.start + 1) 0)) (slots_from words c.start) (ap is_there (sym cell) ∙ there) in
    let object = g.object (λ e. f.not_free (ap (λ w. (fields_of w).class) (sym header) ∙ e)) (λ e. f.not_moved (ap (λ w. (fields_of w).class) (sym header) ∙ e)) in
    ap is_formed (ap body_of cell ∙ f.body ∙ ap (λ w. body_from (fields_of w) (slots_from words c.start)) (sym header) ∙ ap (λ n. body_from (fields_of r.head.header) (slots_from words n)) (sym start)) ∙ object.formed

pub all-formed : (words : List ℕ) (at end stop : ℕ) (cs : List Chunk) → stop ≤ length words → Cuts words at end cs → AreRead words stop cs → CutsFormed words at end cs
all-formed words at end stop cs within t r = record {
  row = t;
  formed = λ to s k.
      let d = start-in to words cs s (there_starts (cell_in to words cs s) k) in
      let cell : cell_in to words cs s ≡ read_cell to words d.0 = ap (cell_in to words cs) (sym d.2) ∙ cell-at to words at end cs d.0 (cuts-in_order words at end cs t) d.1 in
      ap (λ x. is_formed (body_of x)) cell ∙ chunk-formed to words stop d.0 within (stands words at end cs d.0 (cuts-in_order words at end cs t) d.1).chunk (r d.0 d.1) (ap is_there (sym cell) ∙ k);
}

-- ---- the chunks of one range

pub record Walked (words : List ℕ) (at end : ℕ) (cs : List Chunk) : Type 0 where
  pub row : Cuts words at end cs
  pub read : AreRead words end cs

one-more : (words : List ℕ) (at end : ℕ) (h : Head) (cs : List Chunk) → end ≤ length words → at < end → head_at words end at ≡ Ok h
    → Walked words (at + (chunk_of at (get_or words at 0)).size) end cs → Walked words at end (chunk_of at (get_or words at 0) ∷ cs)
one-more words at end h cs within l is w =
    let g = from-head words end at h within l is in
    let c = chunk_of at (get_or words at 0) in
    let here : at ≡ c.at = sym (first words at c g.chunk).1 in
    record {
      row = (g.chunk, w.row);
      read = λ d k. elim k [
        | inl e ↦ subst (ReadIn words end) e (record { head = h; inside = omega (arith, here); read = ap (head_at words end) (sym here) ∙ is })
        | inr m ↦ w.read d m
      ];
    }

module _ (words : List ℕ) (from end : ℕ) (within : end ≤ length words) (none : AllRead words from end) where
  pub range : (most at k : ℕ) → place words from end k ≡ at → at ≤ end → end - at ≤ most → Walked words at end (chunks_from most words at end)
  unfolding chunks_from
  range zero at k is l enough = record { row = omega arith; read = λ c m. absurd m }
  range (suc most) at k is l enough = elim (cases_lt at end) [
    | inr past ↦ rw (le-ltb at end past) (record { row = omega arith; read = λ c m. absurd m })
    | inl low ↦ rw (lt-ltb at end low) (go (λ a j p q b. range most a j p q b) (head_at words end at) refl low)
  ]
    where
      go : ((a j : ℕ) → place words from end j ≡ a → a ≤ end → end - a ≤ most → Walked words a end (chunks_from most words a end))
          → (r : Result Head HeadError) → head_at words end at ≡ r → at < end
          → Walked words at end (chunk_of at (get_or words at 0) ∷ chunks_from most words (at + (chunk_of at (get_or words at 0)).size) end)
      go more (Err e) bad low = absurd (none at (record { k = k; is = sym is; inside = low; error = e; refused = bad }))
      go more (Ok h) good low =
          let g = from-head words end at h within low good in
          let size = g.size in
          let next : place words from end (suc k) ≡ at + (chunk_of at (get_or words at 0)).size =
          next_place words from end k at is ∙ after-ok words end at h low good ∙ ap (λ n. at + n) (sym size) in
          let c = first words at (chunk_of at (get_or words at 0)) g.chunk in
          one-more words at end h _ within low good
          (more (at + (chunk_of at (get_or words at 0)).size) (suc k) next (omega (arith, size, g.fits)) (omega (arith, c.0.room, c.0.lead, c.1)))

  pub range-cuts : (most : ℕ) → from ≤ end → end - from ≤ most → CutsFormed words from end (chunks_from most words from end)
  range-cuts most l enough =
      let w = range most from 0 (first_place words from end) l enough in
      all-formed words from end end (chunks_from most words from end) within w.row w.read
