-- A chunk behind the used eden: the rows have it, and each other cell is as before.
use Rattle.std.proofs.Common.{◌≡◌, ◌≢◌, ◌⊎◌, ℕ, cond, ◌+◌, ◌<◌, ◌≤◌, eqb, List, [], ◌∷◌, ◌++◌, length, get_or, refl, sym, ap, ◌∙◌, subst, arith, inl, inr, append_assoc, Option}
use Rattle.std.proofs.lemmas.Bool.{cases_eq, eq-eqb, ne_eqb}
use Rattle.spur_graph.specs.declared.limits.Limits.{Limits}
use Rattle.object_header.specs.Chunks.{Chunk, IsChunk, Cuts, InOrder}
use Rattle.spur_graph.specs.Cells.{read_cell, cell_in}
use Rattle.spur_graph.specs.Spaces.{Spaces, AreSpaces, AreRows, old_row, eden_row, past_row, young_row, rows}
use Rattle.spur_graph.specs.Heaps.{heap_to}
use Rattle.heap_cells.specs.Rows.{starts_of}
use Rattle.heap_cells.specs.RowWrites.{KeepsChunk}
use Rattle.heap_cells.proofs.Members.{In, in_list, in_either, in_left, in_right, start-front}
use Rattle.heap_cells.proofs.Cutting.{stands, shape, cell-at, Cuts-append, cuts-in_order, row-is}
use Rattle.heap_cells.proofs.Writing.{keeps-same, read-agree, cell-same}
use Rattle.heap_cells.proofs.Spaced.{first_past, rows-in_order, SameRows, rows-kept}

-- a chunk that starts elsewhere plays no part
pub cell-skip : (to : ℕ → Option ℕ) (words : List ℕ) (xs ys : List Chunk) (c : Chunk) (t : ℕ) → c.start ≢ t → cell_in to words (xs ++ c ∷ ys) t ≡ cell_in to words (xs ++ ys) t
unfolding cell_in
cell-skip to words [] ys c t n = ap (λ b. cond b (read_cell to words c) (cell_in to words ys t)) (ne_eqb c.start t n)
cell-skip to words (x ∷ xs) ys c t n = ap (cond (eqb x.start t) (read_cell to words x)) (cell-skip to words xs ys c t n)

-- the spaces, with so many more words of eden used
abbrev pub grown : Spaces → ℕ → Spaces
grown p n = record p { eden_used = p.eden_used + n }

-- words behind the used eden, and no other, are written, and they are one chunk more
pub record Grows (words new : List ℕ) (limits : Limits) (p : Spaces) (c : Chunk) : Type 0 where
  pub spaces : AreSpaces (length words) limits p
  pub rows : AreRows words p
  pub long : length new ≡ length words
  pub fits : p.eden_used + c.size ≤ limits.eden
  pub chunk : IsChunk new (p.eden_at + p.eden_used) c
  pub same : (j : ℕ) → (j < p.eden_at + p.eden_used) ⊎ (p.eden_at + p.eden_used + c.size ≤ j) → get_or new j 0 ≡ get_or words j 0

module _ {words new : List ℕ} {limits : Limits} {p : Spaces} {c : Chunk} (k : Grows words new limits p c) where
  -- no other chunk has words of the run
  pub outside : (d : Chunk) → In (rows words p) d → (d.at + d.size ≤ p.eden_at + p.eden_used) ⊎ (p.eden_at + p.eden_used + c.size ≤ d.at)
  outside d m = elim (in_either (old_row words p) (young_row words p) d m) [
    | inl a ↦
        let s = stands words 0 p.old_end (old_row words p) d (cuts-in_order words 0 p.old_end (old_row words p) k.rows.old) a in
        let b = k.spaces.eden_behind in
        inl (omega (arith, s.lies.before, b))
    | inr a ↦ elim (in_either (eden_row words p) (past_row words p) d a) [
      | inl e ↦
          let s = stands words p.eden_at (p.eden_at + p.eden_used) (eden_row words p) d (cuts-in_order words p.eden_at (p.eden_at + p.eden_used) (eden_row words p) k.rows.eden) e in
          inl s.lies.before
      | inr e ↦
          let s = stands words p.past_at (p.past_at + p.past_used) (past_row words p) d (cuts-in_order words p.past_at (p.past_at + p.past_used) (past_row words p) k.rows.past) e in
          let f = first_past words limits p k.spaces in
          let b = k.spaces.first_behind in
          let room = k.fits in
          inr (omega (arith, s.lies.after, f, b, room))
    ]
  ]

  pub same_words : (d : Chunk) → In (rows words p) d → (j : ℕ) → d.at ≤ j → j < d.at + d.size → get_or new j 0 ≡ get_or words j 0
  same_words d m j low high = elim (outside d m) [
    | inl a ↦ k.same j (inl (omega (arith, a, high)))
    | inr a ↦ k.same j (inr (omega (arith, a, low)))
  ]

  pub order : InOrder words 0 (length words) (rows words p)
  order = rows-in_order words limits p k.spaces k.rows

  keeps : (d : Chunk) → In (rows words p) d → KeepsChunk words new d
  keeps d m =
      let s = stands words 0 (length words) (rows words p) d order m in
      keeps-same words new d (same_words d m d.at (omega arith) (omega (arith, s.lies.lead, s.lies.room))) (same_words d m d.start s.lies.lead (omega (arith, s.lies.room)))

  pub same_header : (d : Chunk) → In (rows words p) d → get_or new d.start 0 ≡ get_or words d.start 0
  same_header d m = let s = stands words 0 (length words) (rows words p) d order m in same_words d m d.start s.lies.lead (omega (arith, s.lies.room))

  same_rows : SameRows words new p × AreRows new p
  same_rows = rows-kept words new p k.rows (λ d m. keeps d (in_list (rows words p) d m))

  pub old_same : old_row new (grown p c.size) ≡ old_row words p
  old_same = same_rows.0.old

  pub past_same : past_row new (grown p c.size) ≡ past_row words p
  past_same = same_rows.0.past

  eden_cut : Cuts new p.eden_at (p.eden_at + (p.eden_used + c.size)) (eden_row words p ++ c ∷ [])
  eden_cut = Cuts-append new p.eden_at (p.eden_at + p.eden_used) (p.eden_at + (p.eden_used + c.size)) (eden_row words p) (c ∷ [])
      (subst (λ cs. Cuts new p.eden_at (p.eden_at + p.eden_used) cs) same_rows.0.eden same_rows.1.eden) (k.chunk, omega arith)

  pub eden_more : eden_row new (grown p c.size) ≡ eden_row words p ++ c ∷ []
  eden_more = row-is new p.eden_at (p.eden_at + (p.eden_used + c.size)) (eden_row words p ++ c ∷ []) eden_cut

  pub grown_spaces : AreSpaces (length new) limits (grown p c.size)
  grown_spaces = record {
    eden_behind = k.spaces.eden_behind;
    first_behind = k.spaces.first_behind;
    second_behind = k.spaces.second_behind;
    last = k.spaces.last ∙ sym k.long;
    past_is = k.spaces.past_is;
    eden_fits = k.fits;
    past_fits = k.spaces.past_fits;
  }

  pub grown_rows : AreRows new (grown p c.size)
  grown_rows = record {
    old = same_rows.1.old;
    eden = subst (λ cs. Cuts new p.eden_at (p.eden_at + (p.eden_used + c.size)) cs) (sym eden_more) eden_cut;
    past = same_rows.1.past;
    five = same_rows.1.five;
  }

  abbrev front : List Chunk
  front = old_row words p ++ eden_row words p

  pub rows_more : rows new (grown p c.size) ≡ front ++ c ∷ past_row words p
  rows_more =
      (λ x. old_same x ++ (eden_more x ++ past_same x))
      ∙ ap (λ cs. old_row words p ++ cs) (append_assoc (eden_row words p) (c ∷ []) (past_row words p))
      ∙ sym (append_assoc (old_row words p) (eden_row words p) (c ∷ past_row words p))

  pub rows_before : rows words p ≡ front ++ past_row words p
  rows_before = sym (append_assoc (old_row words p) (eden_row words p) (past_row words p))

  pub grown_order : InOrder new 0 (length new) (rows new (grown p c.size))
  grown_order = rows-in_order new limits (grown p c.size) grown_spaces grown_rows

  pub new_in : In (rows new (grown p c.size)) c
  new_in = subst (λ cs. In cs c) (sym rows_more) (in_right front (c ∷ past_row words p) c (inl refl))

  -- a chunk of the rows is the new one or was there
  pub in_before : (d : Chunk) → In (rows new (grown p c.size)) d → (c ≡ d) ⊎ In (rows words p) d
  in_before d m = elim (in_either front (c ∷ past_row words p) d (subst (λ cs. In cs d) rows_more m)) [
    | inl a ↦ inr (subst (λ cs. In cs d) (sym rows_before) (in_left front (past_row words p) d a))
    | inr a ↦ elim a [
      | inl e ↦ inl e
      | inr b ↦ inr (subst (λ cs. In cs d) (sym rows_before) (in_right front (past_row words p) d b))
    ]
  ]

  -- and what was there is one of the rows
  pub still_in : (d : Chunk) → In (rows words p) d → In (rows new (grown p c.size)) d
  still_in d m = subst (λ cs. In cs d) (sym rows_more) (elim (in_either front (past_row words p) d (subst (λ cs. In cs d) rows_before m)) [
    | inl a ↦ in_left front (c ∷ past_row words p) d a
    | inr a ↦ in_right front (c ∷ past_row words p) d (inr a)
  ])

  pub young_before : (d : Chunk) → In (young_row new (grown p c.size)) d → (c ≡ d) ⊎ In (young_row words p) d
  young_before d m =
      let is : young_row new (grown p c.size) ≡ eden_row words p ++ c ∷ past_row words p = (λ x. eden_more x ++ past_same x) ∙ append_assoc (eden_row words p) (c ∷ []) (past_row words p) in
      elim (in_either (eden_row words p) (c ∷ past_row words p) d (subst (λ cs. In cs d) is m)) [
        | inl a ↦ inr (in_left (eden_row words p) (past_row words p) d a)
        | inr a ↦ elim a [
          | inl e ↦ inl e
          | inr b ↦ inr (in_right (eden_row words p) (past_row words p) d b)
        ]
      ]

  read-same : (d : Chunk) → In (rows words p) d → read_cell heap_to new d ≡ read_cell heap_to words d
  read-same d m =
      let s = stands words 0 (length words) (rows words p) d order m in
      let h = shape words d s.chunk in
      read-agree heap_to words new d k.long (λ j a b. same_words d m j (omega (arith, a, s.lies.lead)) (omega (arith, b, h.size)))

  pub grown_cell : (t : ℕ) → cell_in heap_to new (rows new (grown p c.size)) t ≡ cond (eqb t c.start) (read_cell heap_to new c) (cell_in heap_to words (rows words p) t)
  grown_cell t = elim (cases_eq t c.start) [
    | inl e ↦
        ap (cell_in heap_to new (rows new (grown p c.size))) e ∙ cell-at heap_to new 0 (length new) (rows new (grown p c.size)) c grown_order new_in
        ∙ sym (ap (λ b. cond b (read_cell heap_to new c) (cell_in heap_to words (rows words p) t)) (eq-eqb t c.start e))
    | inr n ↦
        ap (λ cs. cell_in heap_to new cs t) rows_more ∙ cell-skip heap_to new front (past_row words p) c t (λ e. n (sym e)) ∙ ap (λ cs. cell_in heap_to new cs t) (sym rows_before)
        ∙ cell-same heap_to words new (rows words p) t (λ d m e. read-same d m)
        ∙ sym (ap (λ b. cond b (read_cell heap_to new c) (cell_in heap_to words (rows words p) t)) (ne_eqb t c.start n))
  ]

  pub grown_first : (j : ℕ) → j < 5 → get_or (starts_of (rows new (grown p c.size))) j 0 ≡ get_or (starts_of (rows words p)) j 0
  grown_first j l =
      let five = k.rows.five in
      let low : j < length (old_row words p) = omega (arith, l, five) in
      ap (λ cs. get_or (starts_of (cs ++ young_row new (grown p c.size))) j 0) old_same
      ∙ start-front (old_row words p) (young_row new (grown p c.size)) j low ∙ sym (start-front (old_row words p) (young_row words p) j low)
