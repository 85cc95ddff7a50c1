-- A chunk of old space becomes other chunks: the rows have them in its place, and each cell outside is as before.
use Rattle.std.proofs.Common.{◌≡◌, ◌≢◌, ◌⊎◌, ℕ, cond, ◌+◌, ◌<◌, ◌≤◌, eqb, List, [], ◌∷◌, ◌++◌, length, get_or, refl, sym, ap, ◌∙◌, subst, arith, inl, inr, append_assoc, length-append, Option}
use Rattle.std.proofs.lemmas.Bool.{ne_eqb}
use Rattle.spur_graph.specs.declared.limits.Limits.{Limits}
use Rattle.object_header.specs.Chunks.{Chunk, IsChunk, Cuts, InOrder}
use Rattle.spur_graph.specs.Cells.{Empty, read_cell, cell_in}
use Rattle.spur_graph.specs.Spaces.{Spaces, AreSpaces, AreRows, old_row, eden_row, past_row, young_row, rows}
use Rattle.spur_graph.specs.Heaps.{heap_to}
use Rattle.heap_cells.specs.RowWrites.{KeepsChunk}
use Rattle.heap_cells.proofs.Members.{In, in_either, in_left, in_right}
use Rattle.heap_cells.proofs.Cutting.{first, stands, shape, ends_after, Cuts-append, cuts-in_order, row-is, cell-none}
use Rattle.heap_cells.proofs.Writing.{row-kept, keeps-same, read-agree, cell-same}
use Rattle.heap_cells.proofs.Spaced.{one-row, rows-in_order, young-in_order}
use Rattle.heap_cells.proofs.Growing.{cell-skip}

-- a row at one of its chunks
cuts-at : (words : List ℕ) (from end : ℕ) (xs ys : List Chunk) (f : Chunk) → Cuts words from end (xs ++ f ∷ ys) → Cuts words from f.at xs × (IsChunk words f.at f × Cuts words (f.at + f.size) end ys)
cuts-at words from end [] ys f t =
    let at : f.at ≡ from = (first words from f t.0).1 in
    (sym at, (subst (λ n. IsChunk words n f) (sym at) t.0, subst (λ n. Cuts words (n + f.size) end ys) (sym at) t.1))
cuts-at words from end (x ∷ xs) ys f t = let r = cuts-at words (from + x.size) end xs ys f t.1 in ((t.0, r.0), r.1)

-- of a row of two parts, the one that has the start
cell-behind : (to : ℕ → Option ℕ) (words : List ℕ) (xs ys : List Chunk) (t : ℕ) → ((c : Chunk) → In xs c → c.start ≢ t) → cell_in to words (xs ++ ys) t ≡ cell_in to words ys t
unfolding cell_in
cell-behind to words [] ys t none = refl
cell-behind to words (x ∷ xs) ys t none =
    ap (λ b. cond b (read_cell to words x) (cell_in to words (xs ++ ys) t)) (ne_eqb x.start t (none x (inl refl))) ∙ cell-behind to words xs ys t (λ c m. none c (inr m))

cell-before : (to : ℕ → Option ℕ) (words : List ℕ) (xs ys : List Chunk) (t : ℕ) → ((c : Chunk) → In ys c → c.start ≢ t) → cell_in to words (xs ++ ys) t ≡ cell_in to words xs t
unfolding cell_in
cell-before to words [] ys t none = cell-none to words ys t none
cell-before to words (x ∷ xs) ys t none = ap (cond (eqb x.start t) (read_cell to words x)) (cell-before to words xs ys t none)

cell-between : (to : ℕ → Option ℕ) (words : List ℕ) (xs ms ys : List Chunk) (t : ℕ) → ((c : Chunk) → In ms c → c.start ≢ t) → cell_in to words (xs ++ (ms ++ ys)) t ≡ cell_in to words (xs ++ ys) t
unfolding cell_in
cell-between to words [] ms ys t none = cell-behind to words ms ys t none
cell-between to words (x ∷ xs) ms ys t none = ap (cond (eqb x.start t) (read_cell to words x)) (cell-between to words xs ms ys t none)

-- a chunk stands in other words as it did
pub record StandsAs (words new : List ℕ) (d : Chunk) : Type 0 where
  pub keeps : KeepsChunk words new d
  pub header : get_or new d.start 0 ≡ get_or words d.start 0
  pub cell : read_cell heap_to new d ≡ read_cell heap_to words d

-- as one does whose words are the same
pub words_kept : (words new : List ℕ) (d : Chunk) → length new ≡ length words → IsChunk words d.at d → ((j : ℕ) → d.at ≤ j → j < d.at + d.size → get_or new j 0 ≡ get_or words j 0) → StandsAs words new d
words_kept words new d long chunk same =
    let l = (first words d.at d chunk).0 in
    let h = shape words d chunk in
    record {
      keeps = keeps-same words new d (same d.at (omega arith) (omega (arith, l.lead, l.room))) (same d.start l.lead (omega (arith, l.room)));
      header = same d.start l.lead (omega (arith, l.room));
      cell = read-agree heap_to words new d long (λ j a b. same j (omega (arith, a, l.lead)) (omega (arith, b, h.size)));
    }

-- the words of the chunk `f` of old space are then the chunks `ms`, and the other chunks stand as they did
pub record Splits (words new : List ℕ) (limits : Limits) (p : Spaces) (xs ys : List Chunk) (f : Chunk) (ms : List Chunk) : Type 0 where
  pub spaces : AreSpaces (length words) limits p
  pub rows : AreRows words p
  pub long : length new ≡ length words
  pub is : old_row words p ≡ xs ++ f ∷ ys
  pub cut : Cuts new f.at (f.at + f.size) ms
  pub some : 1 ≤ length ms
  pub same : (d : Chunk) → In (xs ++ (ys ++ young_row words p)) d → StandsAs words new d

module _ {words new : List ℕ} {limits : Limits} {p : Spaces} {xs ys : List Chunk} {f : Chunk} {ms : List Chunk} (k : Splits words new limits p xs ys f ms) where
  -- the chunks behind
  abbrev rest : List Chunk
  rest = ys ++ young_row words p

  parts : Cuts words 0 f.at xs × (IsChunk words f.at f × Cuts words (f.at + f.size) p.old_end ys)
  parts = cuts-at words 0 p.old_end xs ys f (subst (λ cs. Cuts words 0 p.old_end cs) k.is k.rows.old)

  pub rows_before : rows words p ≡ xs ++ f ∷ rest
  rows_before = ap (λ cs. cs ++ young_row words p) k.is ∙ append_assoc xs (f ∷ ys) (young_row words p)

  order : InOrder words 0 (length words) (rows words p)
  order = rows-in_order words limits p k.spaces k.rows

  ends : f.at + f.size ≤ p.old_end
  ends = ends_after words (f.at + f.size) p.old_end ys (cuts-in_order words (f.at + f.size) p.old_end ys parts.1.1)

  -- where the others lie
  before : (d : Chunk) → In xs d → d.at + d.size ≤ f.at
  before d m = (stands words 0 f.at xs d (cuts-in_order words 0 f.at xs parts.0) m).lies.before

  behind : (d : Chunk) → In rest d → f.at + f.size ≤ d.at
  behind d m = elim (in_either ys (young_row words p) d m) [
    | inl a ↦ (stands words (f.at + f.size) p.old_end ys d (cuts-in_order words (f.at + f.size) p.old_end ys parts.1.1) a).lies.after
    | inr a ↦
        let s = stands words p.eden_at (length words) (young_row words p) d (young-in_order words limits p k.spaces k.rows) a in
        let b = k.spaces.eden_behind in
        omega (arith, s.lies.after, b, ends)
  ]

  outside : (d : Chunk) → In (xs ++ rest) d → (d.at + d.size ≤ f.at) ⊎ (f.at + f.size ≤ d.at)
  outside d m = elim (in_either xs rest d m) [ inl a ↦ inl (before d a) | inr a ↦ inr (behind d a) ]

  -- the other chunks were chunks of the rows
  pub was_in : (d : Chunk) → In (xs ++ rest) d → In (rows words p) d
  was_in d m = subst (λ cs. In cs d) (sym rows_before) (elim (in_either xs rest d m) [ inl a ↦ in_left xs (f ∷ rest) d a | inr a ↦ in_right xs (f ∷ rest) d (inr a) ])

  keeps : (d : Chunk) → In (xs ++ rest) d → KeepsChunk words new d
  keeps d m = (k.same d m).keeps

  pub same_header : (d : Chunk) → In (xs ++ rest) d → get_or new d.start 0 ≡ get_or words d.start 0
  same_header d m = (k.same d m).header

  old_cut : Cuts new 0 p.old_end (xs ++ (ms ++ ys))
  old_cut = Cuts-append new 0 f.at p.old_end xs (ms ++ ys)
      (row-kept words new 0 f.at xs parts.0 (λ d m. keeps d (in_left xs rest d m)))
      (Cuts-append new f.at (f.at + f.size) p.old_end ms ys k.cut
      (row-kept words new (f.at + f.size) p.old_end ys parts.1.1 (λ d m. keeps d (in_right xs rest d (in_left ys (young_row words p) d m)))))

  pub old_more : old_row new p ≡ xs ++ (ms ++ ys)
  old_more = row-is new 0 p.old_end (xs ++ (ms ++ ys)) old_cut

  pub eden_one : (eden_row new p ≡ eden_row words p) × Cuts new p.eden_at (p.eden_at + p.eden_used) (eden_row new p)
  eden_one = one-row words new p.eden_at (p.eden_at + p.eden_used) k.rows.eden (λ d m. keeps d (in_right xs rest d (in_right ys (young_row words p) d (in_left (eden_row words p) (past_row words p) d m))))

  pub past_one : (past_row new p ≡ past_row words p) × Cuts new p.past_at (p.past_at + p.past_used) (past_row new p)
  past_one = one-row words new p.past_at (p.past_at + p.past_used) k.rows.past (λ d m. keeps d (in_right xs rest d (in_right ys (young_row words p) d (in_right (eden_row words p) (past_row words p) d m))))

  pub split_young : young_row new p ≡ young_row words p
  split_young = λ x. eden_one.0 x ++ past_one.0 x

  pub rows_after : rows new p ≡ xs ++ (ms ++ rest)
  rows_after =
      (λ x. old_more x ++ split_young x)
      ∙ append_assoc xs (ms ++ ys) (young_row words p)
      ∙ ap (λ cs. xs ++ cs) (append_assoc ms ys (young_row words p))

  pub split_spaces : AreSpaces (length new) limits p
  split_spaces = subst (λ n. AreSpaces n limits p) (sym k.long) k.spaces

  pub split_rows : AreRows new p
  split_rows = record {
    old = subst (λ cs. Cuts new 0 p.old_end cs) (sym old_more) old_cut;
    eden = eden_one.1;
    past = past_one.1;
    five =
        let was = k.rows.five in
        let some = k.some in
        let a : length (old_row words p) ≡ length (xs ++ f ∷ ys) = ap (λ (cs : List Chunk). length cs) k.is in
        let b = length-append xs (f ∷ ys) in
        let c : length (old_row new p) ≡ length (xs ++ (ms ++ ys)) = ap (λ (cs : List Chunk). length cs) old_more in
        let d = length-append xs (ms ++ ys) in
        let e = length-append ms ys in
        omega (arith, was, some, a, b, c, d, e);
  }

  -- ---- the cells

  pub starts_apart : (t : ℕ) → f.at ≤ t → t < f.at + f.size → (d : Chunk) → In (xs ++ rest) d → d.start ≢ t
  starts_apart t low high d m e =
      let s = stands words 0 (length words) (rows words p) d order (was_in d m) in
      elim (outside d m) [
        | inl a ↦ omega (arith, a, e, low, s.lies.room)
        | inr a ↦ omega (arith, a, e, high, s.lies.lead)
      ]

  -- in the run the new chunks alone count
  pub split_cell : (t : ℕ) → f.at ≤ t → t < f.at + f.size → cell_in heap_to new (rows new p) t ≡ cell_in heap_to new ms t
  split_cell t low high =
      ap (λ cs. cell_in heap_to new cs t) rows_after
      ∙ cell-behind heap_to new xs (ms ++ rest) t (λ d m. starts_apart t low high d (in_left xs rest d m))
      ∙ cell-before heap_to new ms rest t (λ d m. starts_apart t low high d (in_right xs rest d m))

  -- there stood nothing but the chunk
  pub split_before : (t : ℕ) → f.at ≤ t → t < f.at + f.size → t ≢ f.start → cell_in heap_to words (rows words p) t ≡ Empty
  split_before t low high n =
      ap (λ cs. cell_in heap_to words cs t) rows_before
      ∙ cell-none heap_to words (xs ++ f ∷ rest) t (λ d m. elim (in_either xs (f ∷ rest) d m) [
        | inl a ↦ starts_apart t low high d (in_left xs rest d a)
        | inr a ↦ elim a [
          | inl e ↦ λ q. n (sym (ap (λ (x : Chunk). x.start) e ∙ q))
          | inr b ↦ starts_apart t low high d (in_right xs rest d b)
        ]
      ])

  read-same : (d : Chunk) → In (xs ++ rest) d → read_cell heap_to new d ≡ read_cell heap_to words d
  read-same d m = (k.same d m).cell

  -- outside of it each cell is as before
  pub split_other : (t : ℕ) → (t < f.at) ⊎ (f.at + f.size ≤ t) → cell_in heap_to new (rows new p) t ≡ cell_in heap_to words (rows words p) t
  split_other t out =
      let own : f.start ≢ t = λ e.
      let l = (first words f.at f parts.1.0).0 in
      elim out [ inl a ↦ omega (arith, a, e, l.lead) | inr a ↦ omega (arith, a, e, l.room) ] in
      let new_ones : (d : Chunk) → In ms d → d.start ≢ t = λ d m e.
      let s = stands new f.at (f.at + f.size) ms d (cuts-in_order new f.at (f.at + f.size) ms k.cut) m in
      elim out [ inl a ↦ omega (arith, a, e, s.lies.after, s.lies.lead) | inr a ↦ omega (arith, a, e, s.lies.before, s.lies.room) ] in
      ap (λ cs. cell_in heap_to new cs t) rows_after
      ∙ cell-between heap_to new xs ms rest t new_ones
      ∙ cell-same heap_to words new (xs ++ rest) t (λ d m e. read-same d m)
      ∙ sym (cell-skip heap_to words xs rest f t own)
      ∙ ap (λ cs. cell_in heap_to words cs t) (sym rows_before)

  -- a chunk of the rows is one of the new ones or was there
  pub split_in : (d : Chunk) → In (rows new p) d → In ms d ⊎ In (xs ++ rest) d
  split_in d m = elim (in_either xs (ms ++ rest) d (subst (λ cs. In cs d) rows_after m)) [
    | inl a ↦ inr (in_left xs rest d a)
    | inr a ↦ elim (in_either ms rest d a) [ inl b ↦ inl b | inr b ↦ inr (in_right xs rest d b) ]
  ]

  -- and what was there is the chunk or another
  pub split_was : (d : Chunk) → In (rows words p) d → (f ≡ d) ⊎ In (xs ++ rest) d
  split_was d m = elim (in_either xs (f ∷ rest) d (subst (λ cs. In cs d) rows_before m)) [
    | inl a ↦ inr (in_left xs rest d a)
    | inr a ↦ elim a [ inl e ↦ inl e | inr b ↦ inr (in_right xs rest d b) ]
  ]
