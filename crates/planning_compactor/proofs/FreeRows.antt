-- A row whose free chunks go into lists: it is cut into the same chunks, and no word of another chunk changes.
use Rattle.std.proofs.Common.{◌≡◌, ℕ, Bool, true, false, cond, ◌+◌, ◌-◌, ◌<◌, ◌≤◌, nat_lt, nat_eq, List, [], ◌∷◌, ◌++◌, length, get_or, refl, sym, ap, ◌∙◌, subst, inl, inr, arith}
use Rattle.std.proofs.lemmas.Bool.{cases_Bool, cases_eq, eqb-true}
use Rattle.std.specs.List.{Contains}
use Rattle.object_header.specs.Head.{class_of}
use Rattle.object_header.specs.Fields.{free_header}
use Rattle.object_header.specs.Chunks.{Chunk, Cuts, InOrder}
use Rattle.free_lists.specs.Runs.{IsFree, cover}
use Rattle.free_lists.specs.Rows.{free_runs, is_free, rewritten, written}
use Rattle.free_lists.proofs.Written.{free_is_written}
use Rattle.spur_graph.specs.Heaps.{Whole}
use Rattle.heap_cells.proofs.Members.{In, listed}
use Rattle.heap_cells.proofs.Cutting.{cuts-in_order, stands}
use Rattle.spur_heap.proofs.FreeRuns.{covered_by, free_runs_same, kept-outside}
use Rattle.spur_heap.proofs.Rebuilt.{free_bits, run_in, short_count}
use Rattle.compaction_laws.specs.Compacting.{IsFreeHead}

-- a chunk of the words as they are written here
pub is-written : (words : List ℕ) (at end : ℕ) (cs : List Chunk) (c : Chunk) → InOrder words at end cs → In cs c → IsFree words c.at c.size → c ≡ written c.at c.size
is-written words at end cs c t m f = (stands words at end cs c t m).chunk.is ∙ sym (free_is_written words c.at c.size f).chunk.is

rewritten-same : (words : List ℕ) (cs : List Chunk) → ((c : Chunk) → In cs c → is_free (get_or words c.start 0) ≡ true → c ≡ written c.at c.size) → rewritten words cs ≡ cs
unfolding rewritten
rewritten-same words [] same = refl
rewritten-same words (c ∷ cs) same =
    let rest = rewritten-same words cs (λ d m. same d (inr m)) in
    elim (cases_Bool (is_free (get_or words c.start 0))) [
      | inl on ↦ λ i. (ap (λ b. cond b (written c.at c.size) c) on ∙ sym (same c (inl refl) on)) i ∷ rest i
      | inr off ↦ λ i. ap (λ b. cond b (written c.at c.size) c) off i ∷ rest i
    ]

-- the row, the free chunks of which were written as here, and the words once they are in lists
pub record IsRelisted (words new : List ℕ) (end : ℕ) (cs : List Chunk) : Type 0 where
  pub row : Cuts words 0 end cs
  pub filled : (c : Chunk) → In cs c → is_free (get_or words c.start 0) ≡ true → IsFree words c.at c.size
  pub long : length new ≡ length words
  pub cut : Cuts new 0 end (rewritten words cs)
  pub free : (x : ℕ × ℕ) → Contains (free_runs words cs) x → IsFree new x.0 x.1
  pub others : (j : ℕ) → cover (free_runs words cs) j ≡ 0 → get_or new j 0 ≡ get_or words j 0

module _ {words new : List ℕ} {end : ℕ} {cs : List Chunk} (r : IsRelisted words new end cs) where
  in-row : InOrder words 0 end cs
  in-row = cuts-in_order words 0 end cs r.row

  pub same-row : Cuts new 0 end cs
  same-row = subst (λ ds. Cuts new 0 end ds) (rewritten-same words cs (λ c m on. is-written words 0 end cs c in-row m (r.filled c m on))) r.cut

  -- words of a chunk that is not free, and those behind the row
  pub kept-words : (c : Chunk) → In cs c → is_free (get_or words c.start 0) ≡ false → (j : ℕ) → c.at ≤ j → j < c.at + c.size → get_or new j 0 ≡ get_or words j 0
  kept-words c m off j from to = r.others j (kept-outside words end cs in-row c m off j from to)

  pub words-beyond : (j : ℕ) → end ≤ j → get_or new j 0 ≡ get_or words j 0
  words-beyond j l = r.others j (elim (cases_eq (cover (free_runs words cs) j) 0) [
    | inl none ↦ none
    | inr some ↦
        let f = covered_by words cs j (omega (arith, some)) in
        let to = f.to in
        let b = (stands words 0 end cs f.chunk in-row f.inside).lies.before in
        absurd (omega (arith, to, b, l))
  ])

  -- the free chunks are free
  pub free-now : (c : Chunk) → In cs c → is_free (get_or words c.start 0) ≡ true → IsFree new c.at c.size
  free-now c m on = r.free (c.at, c.size) (listed (free_runs words cs) (c.at, c.size) (run_in words cs c m on))

  -- of a free chunk
  head-now : (c : Chunk) → In cs c → is_free (get_or words c.start 0) ≡ true → (class_of (get_or new c.start 0) ≡ 0) × (get_or new c.start 0 ≡ free_header (cond (nat_lt 255 c.size) 255 (c.size - 1)))
  head-now c m on =
      let w = free_is_written new c.at c.size (free-now c m on) in
      let at : (written c.at c.size).start ≡ c.start = ap (λ (d : Chunk). d.start) (sym (is-written words 0 end cs c in-row m (r.filled c m on))) in
      (ap (λ s. class_of (get_or new s 0)) (sym at) ∙ w.class, ap (λ s. get_or new s 0) (sym at) ∙ w.header)

  pub free-head : (c : Chunk) → In cs c → is_free (get_or words c.start 0) ≡ true → IsFreeHead (get_or new c.start 0)
  free-head c m on =
      let h = head-now c m on in
      let b = free_bits (cond (nat_lt 255 c.size) 255 (c.size - 1)) (short_count c.size) in
      subst IsFreeHead (sym h.1) (record {
        free = sym (ap class_of h.1) ∙ h.0;
        clear = record { marked = (b.bits Whole).marked refl; grey = (b.bits Whole).grey; remembered = b.forgotten; unused = (b.bits Whole).unused };
      })

  pub header-kept : (c : Chunk) → In cs c → is_free (get_or words c.start 0) ≡ false → get_or new c.start 0 ≡ get_or words c.start 0
  header-kept c m off =
      let l = (stands words 0 end cs c in-row m).lies in
      let a = l.lead in
      let b = l.room in
      kept-words c m off c.start a (omega (arith, b))

  free-still : (c : Chunk) → In cs c → is_free (get_or new c.start 0) ≡ is_free (get_or words c.start 0)
  free-still c m = elim (cases_Bool (is_free (get_or words c.start 0))) [
    | inr off ↦ ap is_free (header-kept c m off)
    | inl on ↦ ap (λ n. nat_eq n 0) (head-now c m on).0 ∙ sym on
  ]

  pub runs-same : free_runs new cs ≡ free_runs words cs
  runs-same = free_runs_same words new cs free-still
