-- What a write inside one chunk leaves of a row.
use Rattle.std.proofs.Common.{◌≡◌, ◌≢◌, ◌⊎◌, ℕ, Bool, cond, ◌+◌, ◌<◌, ◌≤◌, max, List, [], ◌∷◌, length, get_or, refl, sym, ap, ◌∙◌, subst, inl, inr, arith, Option}
use Rattle.std.proofs.lemmas.Bool.{cases_eq, cases_lt, ne_eqb, eq-eqb}
use Rattle.std.proofs.lemmas.List.{get_or-drop, get_or-take, ext_get_or, length-take, length-drop}
use Rattle.std.specs.List.{Contains}
use Rattle.object_header.specs.Chunks.{Chunk, leads, slots_told, chunk_of, IsChunk, Cuts, InOrder, slots_of}
use Rattle.spur_graph.specs.Cells.{Cell, Empty, read_cell, cell_in}
use Rattle.heap_cells.specs.Rows.{starts_of}
use Rattle.heap_cells.specs.RowWrites.{ReadsCells, KeepsChunk, Rewrites}
use Rattle.heap_cells.proofs.Members.{In, in_list, listed, start_of_chunk}
use Rattle.heap_cells.proofs.Cutting.{first, head, stands, shape, cell-at, cell-none}
use Rattle.heap_cells.proofs.Starts.{in_order, read_cell-is}

-- ---- a start and its chunk

pub reads-cells : (to : ℕ → Option ℕ) (words : List ℕ) (end : ℕ) (cs : List Chunk) → InOrder words 0 end cs → ReadsCells to words cs
reads-cells to words end cs t = record {
  here = λ c k. cell-at to words 0 end cs c t (in_list cs c k);
  told = λ c k. read_cell-is to words c (shape words c (stands words 0 end cs c t (in_list cs c k)).chunk).slots;
  none = λ s n. cell-none to words cs s (λ c m e. n (listed (starts_of cs) s (subst (In (starts_of cs)) e (start_of_chunk cs c m))));
}

mapped : (to into : ℕ → Option ℕ) (words new : List ℕ) (cs : List Chunk) (f : ℕ → Cell → Cell) → ((c : Chunk) → In cs c → read_cell into new c ≡ f c.start (read_cell to words c)) → ((s : ℕ) → f s Empty ≡ Empty)
    → (s : ℕ) → cell_in into new cs s ≡ f s (cell_in to words cs s)
unfolding cell_in
mapped to into words new [] f reads none s = sym (none s)
mapped to into words new (c ∷ cs) f reads none s = elim (cases_eq c.start s) [
  | inl e ↦ rw (eq-eqb c.start s e) (reads c (inl refl) ∙ ap (λ n. f n (read_cell to words c)) e)
  | inr n ↦ rw (ne_eqb c.start s n) (mapped to into words new cs f (λ d m. reads d (inr m)) none s)
]

pub cells-mapped : (to into : ℕ → Option ℕ) (words new : List ℕ) (cs : List Chunk) (f : ℕ → Cell → Cell) → ((c : Chunk) → Contains cs c → read_cell into new c ≡ f c.start (read_cell to words c))
    → ((s : ℕ) → f s Empty ≡ Empty) → (s : ℕ) → cell_in into new cs s ≡ f s (cell_in to words cs s)
cells-mapped to into words new cs f reads none s = mapped to into words new cs f (λ c m. reads c (listed cs c m)) none s

-- ---- the row

-- the chunk at a place, by whether it has two head words and by its slots
abbrev pub chunk_by : ℕ → Bool → ℕ → Chunk
chunk_by at twice slots = record { at = at; start = cond twice (at + 1) at; size = cond twice 2 1 + max 1 slots; slots = slots }

kept-chunk : (at v w : ℕ) → leads v ≡ leads w → slots_told v ≡ slots_told w → chunk_of at v ≡ chunk_of at w
unfolding chunk_of
kept-chunk at v w a b = ap (λ k. chunk_by at k (slots_told v)) a ∙ ap (chunk_by at (leads w)) b

is-kept : (words new : List ℕ) (at : ℕ) (c : Chunk) → c.at ≡ at → IsChunk words at c → KeepsChunk words new c → IsChunk new at c
is-kept words new at c here k keeps =
    let a : leads (get_or new at 0) ≡ leads (get_or words at 0) = subst (λ n. leads (get_or new n 0) ≡ leads (get_or words n 0)) here keeps.leads_first in
    let b : slots_told (get_or new at 0) ≡ slots_told (get_or words at 0) = subst (λ n. slots_told (get_or new n 0) ≡ slots_told (get_or words n 0)) here keeps.slots in
    record { is = k.is ∙ sym (kept-chunk at (get_or new at 0) (get_or words at 0) a b); twice = keeps.leads_start ∙ k.twice ∙ sym a }

pub row-kept : (words new : List ℕ) (at end : ℕ) (cs : List Chunk) → Cuts words at end cs → ((c : Chunk) → In cs c → KeepsChunk words new c) → Cuts new at end cs
row-kept words new at end [] t keeps = t
row-kept words new at end (c ∷ cs) t keeps =
    (is-kept words new at c (first words at c t.0).1 t.0 (keeps c (inl refl)), row-kept words new (at + c.size) end cs t.1 (λ d m. keeps d (inr m)))

-- also with words between its chunks
pub order-kept : (words new : List ℕ) (at end : ℕ) (cs : List Chunk) → InOrder words at end cs → ((c : Chunk) → In cs c → KeepsChunk words new c) → InOrder new at end cs
order-kept words new at end [] t keeps = t
order-kept words new at end (c ∷ cs) t keeps =
    (t.0, (is-kept words new c.at c refl t.1.0 (keeps c (inl refl)), order-kept words new (c.at + c.size) end cs t.1.1 (λ d m. keeps d (inr m))))

pub keeps-row : (words new : List ℕ) (at end : ℕ) (cs : List Chunk) → Cuts words at end cs → ((c : Chunk) → Contains cs c → KeepsChunk words new c) → Cuts new at end cs
keeps-row words new at end cs t keeps = row-kept words new at end cs t (λ c m. keeps c (listed cs c m))

pub keeps-same : (words new : List ℕ) (c : Chunk) → get_or new c.at 0 ≡ get_or words c.at 0 → get_or new c.start 0 ≡ get_or words c.start 0 → KeepsChunk words new c
keeps-same words new c a s = record { leads_first = ap leads a; slots = ap slots_told a; leads_start = ap leads s }

-- ---- the cells

slots-agree : (words new : List ℕ) (c : Chunk) → length new ≡ length words → ((j : ℕ) → c.start ≤ j → j < c.start + 1 + c.slots → get_or new j 0 ≡ get_or words j 0) → slots_of new c ≡ slots_of words c
slots-agree words new c len same = ext_get_or 0 _ _
    (simp (length-take, length-drop) (rw len refl))
    (λ i b. let low : i < c.slots = let k : i < length (slots_of new c) = b in omega (arith, simp (length-take, length-drop) at k) in
    rw (get_or-take, get_or-take, get_or-drop, get_or-drop) (same (c.start + 1 + i) (omega arith) (omega arith)))

pub read-agree : (to : ℕ → Option ℕ) (words new : List ℕ) (c : Chunk) → length new ≡ length words → ((j : ℕ) → c.start ≤ j → j < c.start + 1 + max 1 c.slots → get_or new j 0 ≡ get_or words j 0) → read_cell to new c ≡ read_cell to words c
unfolding read_cell
read-agree to words new c len same =
    let head : get_or new c.start 0 ≡ get_or words c.start 0 = same c.start (omega arith) (omega arith) in
    let next : get_or new (c.start + 1) 0 ≡ get_or words (c.start + 1) 0 = same (c.start + 1) (omega arith) (omega arith) in
    rw (head, next, len, slots-agree words new c len (λ j a b. same j a (omega arith))) refl

-- where each chunk of a start reads the same, the cell is the same
pub cell-same : (to : ℕ → Option ℕ) (words new : List ℕ) (cs : List Chunk) (s : ℕ) → ((c : Chunk) → In cs c → c.start ≡ s → read_cell to new c ≡ read_cell to words c) → cell_in to new cs s ≡ cell_in to words cs s
unfolding cell_in
cell-same to words new [] s same = refl
cell-same to words new (c ∷ cs) s same = elim (cases_eq c.start s) [
  | inl e ↦ rw (eq-eqb c.start s e) (same c (inl refl) e)
  | inr n ↦ rw (ne_eqb c.start s n) (cell-same to words new cs s (λ d m. same d (inr m)))
]

-- a start is that of one chunk
pub one-chunk : (words : List ℕ) (at end : ℕ) (cs : List Chunk) (c d : Chunk) → InOrder words at end cs → In cs c → In cs d → c.start ≡ d.start → c ≡ d
one-chunk words at end [] c d t m n e = absurd m
one-chunk words at end (x ∷ cs) c d t m n e =
    let f = head words at end x cs t in
    let later : (y : Chunk) → In cs y → x.start < y.start = λ y k. let s = stands words (x.at + x.size) end cs y t.1.1 k in omega (arith, f.room, s.lies.after, s.lies.lead) in
    elim m [
      | inl p ↦ elim n [
        | inl q ↦ sym p ∙ q
        | inr q ↦ let k : x.start ≡ c.start = ap (λ (y : Chunk). y.start) p in absurd (omega (arith, later d q, k, e))
      ]
      | inr p ↦ elim n [
        | inl q ↦ let k : x.start ≡ d.start = ap (λ (y : Chunk). y.start) q in absurd (omega (arith, later c p, k, e))
        | inr q ↦ one-chunk words (x.at + x.size) end cs c d t.1.1 p q e
      ]
    ]

module _ (to : ℕ → Option ℕ) (words new : List ℕ) (end : ℕ) (cs : List Chunk) (c : Chunk) (t : InOrder words 0 end cs) (m : In cs c) (len : length new ≡ length words)
    (same : (j : ℕ) → (j < c.at) ⊎ (c.at + c.size ≤ j) → get_or new j 0 ≡ get_or words j 0) (keeps : KeepsChunk words new c) where
  -- the words of every other chunk are as before
  others : (d : Chunk) → In cs d → c.start ≢ d.start → (j : ℕ) → d.at ≤ j → j < d.at + d.size → get_or new j 0 ≡ get_or words j 0
  others d n o j a b = elim (cases_lt c.start d.start) [
    | inl l ↦ let k : c.at + c.size ≤ d.at = in_order words 0 end cs c d t m n l in same j (inr (omega arith))
    | inr l ↦ let k : d.at + d.size ≤ c.at = in_order words 0 end cs d c t n m (omega (arith, o)) in same j (inl (omega arith))
  ]

  chunks-kept : (d : Chunk) → In cs d → KeepsChunk words new d
  chunks-kept d n = elim (cases_eq c.start d.start) [
    | inl e ↦ subst (KeepsChunk words new) (one-chunk words 0 end cs c d t m n e) keeps
    | inr o ↦
        let s = stands words 0 end cs d t n in
        keeps-same words new d (others d n o d.at (omega arith) (omega (arith, s.lies.lead, s.lies.room))) (others d n o d.start s.lies.lead (omega (arith, s.lies.room)))
  ]

  others-read : (d : Chunk) → In cs d → c.start ≢ d.start → read_cell to new d ≡ read_cell to words d
  others-read d n o =
      let s = stands words 0 end cs d t n in
      let h = shape words d s.chunk in
      read-agree to words new d len (λ j a b. others d n o j (omega (arith, a, s.lies.lead)) (omega (arith, b, h.size)))

  rewrites : Rewrites to words new end cs c.start (read_cell to new c)
  rewrites =
      let row = order-kept words new 0 end cs t chunks-kept in
      record {
        row = row;
        kept = λ d k. chunks-kept d (in_list cs d k);
        cell = λ u. elim (cases_eq u c.start) [
          | inl e ↦ rw (eq-eqb u c.start e) (ap (cell_in to new cs) e ∙ cell-at to new 0 end cs c row m)
          | inr n ↦ rw (ne_eqb u c.start n) (cell-same to words new cs u (λ d k e. others-read d k (λ q. n (sym e ∙ sym q))))
        ];
      }

pub one-rewritten : (to : ℕ → Option ℕ) (words new : List ℕ) (end : ℕ) (cs : List Chunk) (c : Chunk) → InOrder words 0 end cs → Contains cs c → length new ≡ length words
    → ((j : ℕ) → (j < c.at) ⊎ (c.at + c.size ≤ j) → get_or new j 0 ≡ get_or words j 0) → KeepsChunk words new c → Rewrites to words new end cs c.start (read_cell to new c)
one-rewritten to words new end cs c t m len same keeps = rewrites to words new end cs c t (in_list cs c m) len same keeps
