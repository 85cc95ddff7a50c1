-- The free chunks of a row as runs: where other words give the same, and which words are theirs.
use Rattle.std.proofs.Common.{◌≡◌, ℕ, Bool, true, false, ◌+◌, ◌<◌, ◌≤◌, not, List, [], ◌∷◌, get_or, refl, sym, ap, ◌∙◌, arith, inl, inr, Option}
use Rattle.std.proofs.lemmas.Bool.{cases_Bool, cases_eq, cases_lt, false≢true}
use Rattle.object_header.specs.Fields.{fields_of}
use Rattle.object_header.specs.Chunks.{Chunk, InOrder, slots_of}
use Rattle.spur_graph.specs.Cells.{is_start, cell_in, read_cell, start_named}
use Rattle.heap_cells.proofs.CellKinds.{start_from}
use Rattle.heap_cells.proofs.Cutting.{cell-at}
use Rattle.heap_cells.proofs.Members.{In}
use Rattle.heap_cells.proofs.Starts.{in_order}
use Rattle.free_lists.specs.Runs.{cover, covers}
use Rattle.free_lists.specs.Rows.{is_free, free_runs, with_run}
use Rattle.free_lists.proofs.Covers.{cover-cons, covers-place}

read-start : (to : ℕ → Option ℕ) (words : List ℕ) (c : Chunk) → is_start (read_cell to words c) ≡ not (is_free (get_or words c.start 0))
unfolding read_cell
read-start to words c = start_from (fields_of (get_or words c.start 0)) (start_named to words (get_or words (c.start + 1) 0)) (slots_of words c)

-- a chunk is free where nothing starts
pub free_told : (to : ℕ → Option ℕ) (words : List ℕ) (end : ℕ) (cs : List Chunk) (c : Chunk) → InOrder words 0 end cs → In cs c → is_free (get_or words c.start 0) ≡ not (is_start (cell_in to words cs c.start))
free_told to words end cs c t m =
    let b : Bool = is_free (get_or words c.start 0) in
    let is : is_start (cell_in to words cs c.start) ≡ not b = ap is_start (cell-at to words 0 end cs c t m) ∙ read-start to words c in
    twice b ∙ ap not (sym is)
  where
    twice : (b : Bool) → b ≡ not (not b)
    twice true = refl
    twice false = refl

pub free_runs_same : (words new : List ℕ) (cs : List Chunk) → ((c : Chunk) → In cs c → is_free (get_or new c.start 0) ≡ is_free (get_or words c.start 0)) → free_runs new cs ≡ free_runs words cs
unfolding free_runs
free_runs_same words new [] same = refl
free_runs_same words new (c ∷ cs) same = λ x. with_run (same c (inl refl) x) (c.at, c.size) (free_runs_same words new cs (λ d m. same d (inr m)) x)

-- a free chunk of a row that has this word
pub record HasFree (words : List ℕ) (cs : List Chunk) (k : ℕ) : Type 0 where
  pub chunk : Chunk
  pub inside : In cs chunk
  pub free : is_free (get_or words chunk.start 0) ≡ true
  pub from : chunk.at ≤ k
  pub to : k < chunk.at + chunk.size

pub covered_by : (words : List ℕ) (cs : List Chunk) (k : ℕ) → 1 ≤ cover (free_runs words cs) k → HasFree words cs k
unfolding free_runs
covered_by words [] k some = absurd (omega arith)
covered_by words (c ∷ cs) k some = elim (cases_Bool (is_free (get_or words c.start 0))) [
  | inr off ↦ more (covered_by words cs k (rw off at some))
  | inl on ↦
      let both : 1 ≤ cover ((c.at, c.size) ∷ free_runs words cs) k = rw on at some in
      elim (cases_eq (covers k (c.at, c.size)) 0) [
        | inl none ↦ more (covered_by words cs k (omega (arith, both, cover-cons (c.at, c.size) (free_runs words cs) k, none)))
        | inr here ↦ let p = covers-place k c.at c.size (omega (arith, here)) in record { chunk = c; inside = inl refl; free = on; from = p.0; to = p.1 }
      ]
]
  where
    more : HasFree words cs k → HasFree words (c ∷ cs) k
    more h = record { chunk = h.chunk; inside = inr h.inside; free = h.free; from = h.from; to = h.to }

-- a word of a chunk that is not free is that of no free chunk
pub kept-outside : (words : List ℕ) (end : ℕ) (cs : List Chunk) → InOrder words 0 end cs → (c : Chunk) → In cs c → is_free (get_or words c.start 0) ≡ false → (k : ℕ) → c.at ≤ k → k < c.at + c.size → cover (free_runs words cs) k ≡ 0
kept-outside words end cs t c m off k from to = elim (cases_eq (cover (free_runs words cs) k) 0) [
  | inl none ↦ none
  | inr some ↦
      let f = covered_by words cs k (omega (arith, some)) in
      let first = f.from in
      let last = f.to in
      absurd (elim (cases_lt c.start f.chunk.start) [
        | inl low ↦ let a = in_order words 0 end cs c f.chunk t m f.inside low in omega (arith, a, first, to)
        | inr ge ↦ elim (cases_eq c.start f.chunk.start) [
          | inl e ↦ false≢true (sym off ∙ ap (λ s. is_free (get_or words s 0)) e ∙ f.free)
          | inr n ↦ let a = in_order words 0 end cs f.chunk c t f.inside m (omega (arith, ge, n)) in omega (arith, a, last, from)
        ]
      ])
]
