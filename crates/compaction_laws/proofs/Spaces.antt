-- The spaces of a compacted heap: their rows, and which objects go where.
use Rattle.std.proofs.Common.{◌≡◌, ◌⊎◌, ℕ, Bool, true, cond, not, ◌&&◌, ◌+◌, ◌-◌, ◌<◌, ◌≤◌, List, ◌++◌, length, get_or, sym, ap, ◌∙◌, subst, arith, inl, inr}
use Rattle.std.proofs.lemmas.Bool.{cases_Bool, cases_eq, and_parts, ne_eqb}
use Rattle.object_header.specs.Chunks.{Chunk, leads, IsChunk, Cuts, row}
use Rattle.spur_graph.specs.Cells.{Store, is_there, first}
use Rattle.spur_graph.specs.Spaces.{Spaces, old_row, eden_row, past_row, young_row}
use Rattle.spur_graph.specs.Heaps.{IsWhole, View, heap_to, store_of, chunks_of}
use Rattle.heap_cells.specs.RowWrites.{KeepsChunk}
use Rattle.heap_cells.proofs.CellKinds.{there_starts}
use Rattle.heap_cells.proofs.Cutting.{cuts-in_order, stands, shape, Cuts-append, start-in}
use Rattle.heap_cells.proofs.Members.{In, in_either, in_left, in_right}
use Rattle.heap_cells.proofs.Spaced.{young-in_order}
use Rattle.heap_cells.proofs.Writing.{row-kept, keeps-same}
use Rattle.heap_laws.specs.Compaction.{MovedBy}
use Rattle.compaction_laws.specs.Compacting.{IsTight, Compacts, KeepsHead, is_marked_object, is_mapped, behind_roots}
use Rattle.compaction_laws.proofs.Fronts.{front, behind, front-behind, front-number, firsts-rise, split, internal_three, first-mapped}

-- a chunk whose head words are as they were is told as it was
keeps-head : (words words' : List ℕ) (d : Chunk) → IsChunk words d.at d → KeepsHead words words' d.start → KeepsChunk words words' d
keeps-head words words' d k h =
    let l = (shape words d k).lead in
    keeps-same words words' d (elim (cases_Bool (leads (get_or words d.start 0))) [
      | inl on ↦
          let one : d.start ≡ d.at + 1 = l ∙ ap (λ b. d.at + cond b 1 0) on in
          let at : d.start - 1 ≡ d.at = omega (arith, one) in
          ap (λ i. get_or words' i 0) (sym at) ∙ h.lead on ∙ ap (λ i. get_or words i 0) at
      | inr off ↦
          let none : d.start ≡ d.at + 0 = l ∙ ap (λ b. d.at + cond b 1 0) off in
          let at : d.start ≡ d.at = omega (arith, none) in
          ap (λ i. get_or words' i 0) (sym at) ∙ h.header ∙ ap (λ i. get_or words i 0) at
    ]) h.header

-- where the starts of a row are
starts-within : (words : List ℕ) (low end : ℕ) (cs : List Chunk) (d : Chunk) → Cuts words low end cs → In cs d → (low ≤ d.start) × (d.start < end)
starts-within words low end cs d t m =
    let l = (stands words low end cs d (cuts-in_order words low end cs t) m).lies in
    let a = l.after in let b = l.lead in let e = l.room in let f = l.before in
    (omega (arith, a, b), omega (arith, e, f))

-- ---- the first five chunks

-- they stay where they are
module _ {p : ℕ → ℕ} {v : View} {starts : ℕ → Bool} {words' : List ℕ} (k : IsWhole v) (t : IsTight v) (moved : MovedBy p (is_mapped v) starts v.words words')
    (firsts : (j : ℕ) → j < 5 → p (first (store_of v) j) ≡ first (store_of v) j) (lists : KeepsHead v.words words' (first (store_of v) 3))
  where
    pub first-heads : (j : ℕ) → j < 5 → KeepsHead v.words words' (first (store_of v) j)
    first-heads j l = elim (cases_eq j 3) [
      | inl three ↦ subst (KeepsHead v.words words') (ap (first (store_of v)) (sym three)) lists
      | inr other ↦
          let m = moved.objects (first (store_of v) j) (first-mapped k t j l other) in
          let stay = firsts j l in
          record { header = ap (λ s. get_or words' s 0) (sym stay) ∙ m.header; lead = λ on. ap (λ s. get_or words' (s - 1) 0) (sym stay) ∙ m.lead on }
    ]

    pub front-cuts : Cuts words' 0 (behind_roots v) (front k)
    front-cuts = row-kept v.words words' 0 (behind_roots v) (front k) (split k).0 (λ d m.
        let n = front-number k d m in
        keeps-head v.words words' d (stands v.words 0 (behind_roots v) (front k) d (cuts-in_order v.words 0 (behind_roots v) (front k) (split k).0) m).chunk (subst (KeepsHead v.words words') (sym n.2) (first-heads n.0 n.1)))

module _ {p : ℕ → ℕ} {v v' : View} (k : IsWhole v) (t : IsTight v) (c : Compacts p v v') where
  abbrev old : Store
  old = store_of v

  abbrev os : List Chunk
  os = old_row v.words v.spaces

  abbrev es : List Chunk
  es = eden_row v.words v.spaces

  abbrev ps : List Chunk
  ps = past_row v.words v.spaces

  abbrev pub spaces' : Spaces
  spaces' = record v.spaces { eden_used = v'.spaces.eden_used; past_used = v'.spaces.past_used }

  -- ---- the row of old space

  abbrev pub rest' : List Chunk
  rest' = row v'.words (behind_roots v) v.spaces.old_end

  abbrev pub old' : List Chunk
  old' = front k ++ rest'

  pub old-cuts : Cuts v'.words 0 v.spaces.old_end old'
  old-cuts = Cuts-append v'.words 0 (behind_roots v) v.spaces.old_end (front k) rest' (front-cuts k t c.moved c.firsts c.lists) c.old.cuts

  abbrev pub eden' : List Chunk
  eden' = eden_row v'.words spaces'

  abbrev pub past' : List Chunk
  past' = past_row v'.words spaces'

  -- ---- the space of a chunk

  pub old-below : (d : Chunk) → In os d → d.start < v.spaces.old_end
  old-below d m = (starts-within v.words 0 v.spaces.old_end os d k.rows.old m).1

  pub old'-below : (d : Chunk) → In old' d → d.start < v.spaces.old_end
  old'-below d m = (starts-within v'.words 0 v.spaces.old_end old' d old-cuts m).1

  pub eden-within : (d : Chunk) → In es d → (v.spaces.eden_at ≤ d.start) × (d.start < v.spaces.eden_at + v.spaces.eden_used)
  eden-within d m = starts-within v.words v.spaces.eden_at (v.spaces.eden_at + v.spaces.eden_used) es d k.rows.eden m

  pub eden'-within : (d : Chunk) → In eden' d → (v.spaces.eden_at ≤ d.start) × (d.start < v.spaces.eden_at + v.spaces.eden_used)
  eden'-within d m = let w = starts-within v'.words v.spaces.eden_at (v.spaces.eden_at + v'.spaces.eden_used) eden' d c.eden.cuts m in let a = w.1 in let b = c.eden.within in (w.0, omega (arith, a, b))

  pub past-within : (d : Chunk) → In ps d → (v.spaces.past_at ≤ d.start) × (d.start < v.spaces.past_at + v.spaces.past_used)
  past-within d m = starts-within v.words v.spaces.past_at (v.spaces.past_at + v.spaces.past_used) ps d k.rows.past m

  pub past'-above : (d : Chunk) → In past' d → v.spaces.past_at ≤ d.start
  past'-above d m = (starts-within v'.words v.spaces.past_at (v.spaces.past_at + v'.spaces.past_used) past' d c.past.cuts m).0

  pub young_above : (d : Chunk) → In (young_row v.words v.spaces) d → v.spaces.old_end ≤ d.start
  young_above d m =
      let l = (stands v.words v.spaces.eden_at (length v.words) (young_row v.words v.spaces) d (young-in_order v.words v.limits v.spaces k.spaces k.rows) m).lies in
      let a = l.after in let b = l.lead in let e = k.spaces.eden_behind in
      omega (arith, a, b, e)

  pub behind-above : (d : Chunk) → In (behind k) d → behind_roots v ≤ d.start
  behind-above d m = (starts-within v.words (behind_roots v) v.spaces.old_end (behind k) d (split k).1 m).0

  -- the chunk of an object
  pub located : (s : ℕ) → is_there (old.cell s) ≡ true → (d : Chunk) × In (chunks_of v) d × (d.start ≡ s)
  located s there = start-in heap_to v.words (chunks_of v) s (there_starts (old.cell s) there)

  -- ---- what is in the start map

  pub marked-there : (s : ℕ) → is_mapped v s ≡ true → is_marked_object v s ≡ true
  marked-there s on = (and_parts (is_marked_object v s) _ on).0

  pub three_below : first old 3 < v.spaces.old_end
  three_below = k.inner (first old 3) (internal_three k t)

  mapped-behind : (s : ℕ) → is_marked_object v s ≡ true → first old 3 < s → is_mapped v s ≡ true
  mapped-behind s on high = λ x. on x && not (ne_eqb s (first old 3) (λ e. omega (arith, e, high)) x)

  pub young-mapped : (d : Chunk) → In (young_row v.words v.spaces) d → is_marked_object v d.start ≡ true → is_mapped v d.start ≡ true
  young-mapped d m on = let a = young_above d m in let b = three_below in mapped-behind d.start on (omega (arith, a, b))

  pub in_eden : (d : Chunk) → In es d → In (young_row v.words v.spaces) d
  in_eden d m = in_left es ps d m

  pub in_past : (d : Chunk) → In ps d → In (young_row v.words v.spaces) d
  in_past d m = in_right es ps d m

  pub eden-goes : (d : Chunk) → In es d → is_marked_object v d.start ≡ true → (v.spaces.eden_at ≤ p d.start) × (p d.start < v.spaces.eden_at + v.spaces.eden_used)
  eden-goes d m on = let w = eden-within d m in c.stay_eden d.start (young-mapped d (in_eden d m) on) w.0 w.1

  pub past-goes : (d : Chunk) → In ps d → is_marked_object v d.start ≡ true → (v.spaces.past_at ≤ p d.start) × (p d.start < v.spaces.past_at + v.spaces.past_used)
  past-goes d m on = let w = past-within d m in c.stay_past d.start (young-mapped d (in_past d m) on) w.0 w.1

  -- an object of old space is one of the first five, which stay, or goes to a place behind them
  pub record OldGoes (d : Chunk) : Type 0 where
    pub below : p d.start < v.spaces.old_end
    pub either : (In (front k) d × (p d.start ≡ d.start)) ⊎ ((is_mapped v d.start ≡ true) × (behind_roots v ≤ p d.start))

  pub old-goes : (d : Chunk) → In os d → is_marked_object v d.start ≡ true → OldGoes d
  old-goes d m on = elim (in_either (front k) (behind k) d (subst (λ cs. In cs d) (sym (front-behind k)) m)) [
    | inl f ↦
        let n = front-number k d f in
        let stay : p d.start ≡ d.start = ap p n.2 ∙ c.firsts n.0 n.1 ∙ sym n.2 in
        let low = old-below d m in
        record { below = omega (arith, low, stay); either = inl (f, stay) }
    | inr g ↦
        let low = behind-above d g in
        let rise = firsts-rise k 3 4 (omega arith) (omega arith) in
        let on2 = mapped-behind d.start on (omega (arith, low, rise)) in
        let w = c.stay_old d.start on2 low (old-below d m) in
        record { below = w.1; either = inr (on2, w.0) }
  ]
