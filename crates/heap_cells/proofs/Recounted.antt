-- Words that tell the same place of each chunk, and perhaps another number of slots: one where there was none, or none where there was one.
use Rattle.std.proofs.Common.{◌≡◌, ℕ, cond, ◌+◌, max, List, [], ◌∷◌, ◌++◌, map, length, get_or, refl, sym, ap, ◌∙◌, subst, inl, inr, arith, Option}
use Rattle.std.proofs.lemmas.Bool.{cases_eq, eq-eqb, ne_eqb}
use Rattle.std.proofs.lemmas.List.{map-append, length-map}
use Rattle.object_header.specs.Chunks.{Chunk, leads, slots_told, chunk_of, IsChunk, Cuts, InOrder, row}
use Rattle.spur_graph.specs.Cells.{read_cell, cell_in}
use Rattle.spur_graph.specs.Spaces.{Spaces, AreRows, old_row, eden_row, past_row, young_row, rows}
use Rattle.heap_cells.specs.Rows.{starts_of}
use Rattle.heap_cells.proofs.Members.{In, in_left, in_right}
use Rattle.heap_cells.proofs.Cutting.{first, row-is, cell-at}

-- the chunk with as many slots as these words tell
abbrev pub recounted : List ℕ → Chunk → Chunk
recounted new c = record c { slots = slots_told (get_or new c.at 0) }

-- the head words tell the same place
pub record KeepsPlace (words new : List ℕ) (c : Chunk) : Type 0 where
  pub leads_first : leads (get_or new c.at 0) ≡ leads (get_or words c.at 0)
  pub leads_start : leads (get_or new c.start 0) ≡ leads (get_or words c.start 0)
  pub size : max 1 (slots_told (get_or new c.at 0)) ≡ max 1 (slots_told (get_or words c.at 0))

-- as head words do that are the same
pub keeps-place : (words new : List ℕ) (c : Chunk) → get_or new c.at 0 ≡ get_or words c.at 0 → get_or new c.start 0 ≡ get_or words c.start 0 → KeepsPlace words new c
keeps-place words new c a s = record { leads_first = ap leads a; leads_start = ap leads s; size = ap (λ w. max 1 (slots_told w)) a }

-- a chunk has as many slots as its first word tells
pub slots-told : (words : List ℕ) (c : Chunk) → IsChunk words c.at c → c.slots ≡ slots_told (get_or words c.at 0)
unfolding chunk_of
slots-told words c k = ap (λ (d : Chunk). d.slots) k.is

-- where the first word is the same, the chunk is
pub recounted-same : (words new : List ℕ) (c : Chunk) → IsChunk words c.at c → get_or new c.at 0 ≡ get_or words c.at 0 → recounted new c ≡ c
recounted-same words new c k same = ap (λ n. let d : Chunk = record c { slots = n } in d) (ap slots_told same ∙ sym (slots-told words c k))

chunk-recounted : (words new : List ℕ) (c : Chunk) → IsChunk words c.at c → KeepsPlace words new c → IsChunk new c.at (recounted new c)
unfolding chunk_of
chunk-recounted words new c k keeps =
    let n : ℕ = slots_told (get_or new c.at 0) in
    record {
      is =
          ap (λ (x : Chunk). let d : Chunk = record x { slots = n } in d) k.is
          ∙ (λ x. let d : Chunk = record { at = c.at; start = cond (sym keeps.leads_first x) (c.at + 1) c.at; size = cond (sym keeps.leads_first x) 2 1 + sym keeps.size x; slots = n } in d);
      twice = keeps.leads_start ∙ k.twice ∙ sym keeps.leads_first;
    }

-- ---- rows

cuts-recounted : (words new : List ℕ) (at end : ℕ) (cs : List Chunk) → Cuts words at end cs → ((c : Chunk) → In cs c → KeepsPlace words new c) → Cuts new at end (map (recounted new) cs)
cuts-recounted words new at end [] t keeps = t
cuts-recounted words new at end (c ∷ cs) t keeps =
    let e : c.at ≡ at = (first words at c t.0).1 in
    let here : IsChunk new c.at (recounted new c) = chunk-recounted words new c (subst (λ n. IsChunk words n c) (sym e) t.0) (keeps c (inl refl)) in
    (subst (λ n. IsChunk new n (recounted new c)) e here, cuts-recounted words new (at + c.size) end cs t.1 (λ d m. keeps d (inr m)))

row-recounted : (words new : List ℕ) (from end : ℕ) → Cuts words from end (row words from end) → ((c : Chunk) → In (row words from end) c → KeepsPlace words new c)
    → (row new from end ≡ map (recounted new) (row words from end)) × Cuts new from end (row new from end)
row-recounted words new from end t keeps =
    let k = cuts-recounted words new from end (row words from end) t keeps in
    let e = row-is new from end (map (recounted new) (row words from end)) k in
    (e, subst (λ cs. Cuts new from end cs) (sym e) k)

-- each row has the same places
pub record RecountsRows (words new : List ℕ) (p : Spaces) : Type 0 where
  pub old : old_row new p ≡ map (recounted new) (old_row words p)
  pub eden : eden_row new p ≡ map (recounted new) (eden_row words p)
  pub past : past_row new p ≡ map (recounted new) (past_row words p)

pub rows-recounted : (words new : List ℕ) (p : Spaces) → AreRows words p → ((c : Chunk) → In (rows words p) c → KeepsPlace words new c) → RecountsRows words new p × AreRows new p
rows-recounted words new p r keeps =
    let young : (c : Chunk) → In (young_row words p) c → KeepsPlace words new c = λ c m. keeps c (in_right (old_row words p) (young_row words p) c m) in
    let old = row-recounted words new 0 p.old_end r.old (λ c m. keeps c (in_left (old_row words p) (young_row words p) c m)) in
    let eden = row-recounted words new p.eden_at (p.eden_at + p.eden_used) r.eden (λ c m. young c (in_left (eden_row words p) (past_row words p) c m)) in
    let past = row-recounted words new p.past_at (p.past_at + p.past_used) r.past (λ c m. young c (in_right (eden_row words p) (past_row words p) c m)) in
    let five = r.five in
    let same : length (old_row new p) ≡ length (old_row words p) = ap (λ (cs : List Chunk). length cs) old.0 ∙ length-map (old_row words p) (recounted new) in
    (record { old = old.0; eden = eden.0; past = past.0 }, record { old = old.1; eden = eden.1; past = past.1; five = omega (arith, five, same) })

module _ {words new : List ℕ} {p : Spaces} (k : RecountsRows words new p) where
  pub young-places : young_row new p ≡ map (recounted new) (young_row words p)
  young-places = (λ x. k.eden x ++ k.past x) ∙ sym (map-append (recounted new) (eden_row words p) (past_row words p))

  pub rows-places : rows new p ≡ map (recounted new) (rows words p)
  rows-places = (λ x. k.old x ++ young-places x) ∙ sym (map-append (recounted new) (old_row words p) (young_row words p))

pub starts-recounted : (new : List ℕ) (cs : List Chunk) → starts_of (map (recounted new) cs) ≡ starts_of cs
starts-recounted new [] = refl
starts-recounted new (c ∷ cs) = ap (λ ss. c.start ∷ ss) (starts-recounted new cs)

-- ---- cells

pub in_recounted : (new : List ℕ) (cs : List Chunk) (c : Chunk) → In cs c → In (map (recounted new) cs) (recounted new c)
in_recounted new [] c k = absurd k
in_recounted new (d ∷ cs) c k = elim k [
  | inl e ↦ inl (ap (recounted new) e)
  | inr m ↦ inr (in_recounted new cs c m)
]

-- where each chunk of a start reads the same, the cell is the same
pub cell-recounted : (to : ℕ → Option ℕ) (words new : List ℕ) (cs : List Chunk) (t : ℕ) → ((c : Chunk) → In cs c → c.start ≡ t → read_cell to new (recounted new c) ≡ read_cell to words c) → cell_in to new (map (recounted new) cs) t ≡ cell_in to words cs t
unfolding cell_in
cell-recounted to words new [] t same = refl
cell-recounted to words new (c ∷ cs) t same = elim (cases_eq c.start t) [
  | inl e ↦ rw (eq-eqb c.start t e) (same c (inl refl) e)
  | inr n ↦ rw (ne_eqb c.start t n) (cell-recounted to words new cs t (λ d m. same d (inr m)))
]

-- a cell is what its chunk reads
pub cell-read : (to : ℕ → Option ℕ) (words new : List ℕ) (end : ℕ) (cs : List Chunk) (c : Chunk) → InOrder new 0 end (map (recounted new) cs) → In cs c → cell_in to new (map (recounted new) cs) c.start ≡ read_cell to new (recounted new c)
cell-read to words new end cs c t m = cell-at to new 0 end (map (recounted new) cs) (recounted new c) t (in_recounted new cs c m)
