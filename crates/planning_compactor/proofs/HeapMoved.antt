-- A heap whose objects have moved: its old space is a row of chunks, in which each gap is one free chunk.
use Rattle.std.proofs.Common.{◌≡◌, ◌≢◌, ℕ, Bool, true, false, cond, ◌+◌, ◌-◌, ◌<◌, ◌≤◌, ◌⊎◌, List, [], ◌∷◌, ◌++◌, length, get_or, refl, sym, ap, ◌∙◌, subst, inl, inr, arith}
use Rattle.std.proofs.lemmas.Bool.{cases_Bool, cases_eq, cases_lt, false≢true, ne_eqb}
use Rattle.std.specs.List.{Contains}
use Rattle.object_header.specs.Head.{class_of}
use Rattle.object_header.specs.Chunks.{Chunk, leads, Cuts, InOrder, row}
use Rattle.free_lists.specs.Runs.{IsFree}
use Rattle.free_lists.specs.Rows.{is_free}
use Rattle.spur_graph.specs.Cells.{first, is_there}
use Rattle.spur_graph.specs.Spaces.{old_row, young_row}
use Rattle.spur_graph.specs.Heaps.{IsWhole, View, heap_to, store_of, chunks_of}
use Rattle.heap_walk.specs.Shapes.{place_at, end_at}
use Rattle.heap_cells.specs.Rows.{starts_of}
use Rattle.heap_cells.proofs.CellKinds.{there_starts}
use Rattle.heap_cells.proofs.Cutting.{Cuts-append, cuts-in_order, shape, stands, start-in}
use Rattle.heap_cells.proofs.Members.{In, chunk_of_start, in_either, in_left, in_list, in_right, listed}
use Rattle.heap_cells.proofs.Spaced.{young-in_order}
use Rattle.heap_cells.proofs.Starts.{in_order, start-read}
use Rattle.heap_laws.specs.Compaction.{IsMovedBy, MovedBy}
use Rattle.compaction_laws.specs.Compacting.{IsTight, KeepsHead, behind_roots, is_mapped}
use Rattle.compaction_laws.proofs.Fronts.{behind, front, front-behind, front-chunk, front-number, order, split}
use Rattle.compaction_laws.proofs.Spaces.{first-heads, front-cuts}
use Rattle.compaction_laws.proofs.Ready.{not-lists}
use Rattle.planning_compactor.specs.Planning.{AreLaid}
use Rattle.planning_compactor.specs.Filled.{IsCut}
use Rattle.planning_compactor.specs.Compacted.{AreCompacted, IsOutside}
use Rattle.planning_compactor.specs.Ranges.{ranges_in}
use Rattle.planning_compactor.proofs.HeapReady.{chunk-of, eden-end, there}
use Rattle.planning_compactor.proofs.RowMarks.{IsToldAt, told-at}
use Rattle.planning_compactor.proofs.Shapes.{lead-one}

-- the words once the objects have moved
pub record HasMoved (v : View) (goes : ℕ → ℕ) (has : ℕ → Bool) (words : List ℕ) : Type 0 where
  pub cut : IsCut has words (behind_roots v) v.spaces.old_end
  pub laid : AreLaid has words (behind_roots v) v.spaces.old_end
  pub compacted : AreCompacted goes (is_mapped v) has v.words words (ranges_in v)

module _ {v : View} {goes : ℕ → ℕ} {has : ℕ → Bool} {words : List ℕ} (k : IsWhole v) (t : IsTight v) (m : HasMoved v goes has words) where
  abbrev low : ℕ
  low = behind_roots v

  -- where new space is
  pub record Above : Type 0 where
    pub eden : low ≤ v.spaces.eden_at
    pub past : low ≤ v.spaces.past_at
    pub old : low ≤ v.spaces.old_end

  pub above : Above
  above =
      let a = m.laid.whole.0 in
      let b = k.spaces.eden_behind in
      let c = eden-end k t in
      record { eden = omega (arith, a, b); past = omega (arith, a, b, c); old = a }

  -- ---- the first five chunks

  -- what starts before the range is one of them
  pub in-front : (c : Chunk) → In (chunks_of v) c → c.start < low → In (front k) c
  in-front c i l =
      let a = above in
      elim (in_either (old_row v.words v.spaces) (young_row v.words v.spaces) c i) [
        | inl o ↦ elim (in_either (front k) (behind k) c (subst (λ cs. In cs c) (sym (front-behind k)) o)) [
          | inl f ↦ f
          | inr b ↦
              let s = (stands v.words low v.spaces.old_end (behind k) c (cuts-in_order v.words low v.spaces.old_end (behind k) (split k).1) b).lies in
              let x = s.after in let y = s.lead in
              absurd (omega (arith, x, y, l))
        ]
        | inr y ↦
            let s = (stands v.words v.spaces.eden_at (length v.words) (young_row v.words v.spaces) c (young-in_order v.words v.limits v.spaces k.spaces k.rows) y).lies in
            let x = s.after in let z = s.lead in let e = a.eden in
            absurd (omega (arith, x, z, l, e))
      ]

  front-below : (c : Chunk) → In (front k) c → c.at + c.size ≤ low
  front-below c i = (stands v.words 0 low (front k) c (cuts-in_order v.words 0 low (front k) (split k).0) i).lies.before

  front-in : (c : Chunk) → In (front k) c → In (chunks_of v) c
  front-in c i = in_left (old_row v.words v.spaces) (young_row v.words v.spaces) c (subst (λ cs. In cs c) (front-behind k) (in_left (front k) (behind k) c i))

  front-start-below : (c : Chunk) → In (front k) c → c.start < low
  front-start-below c i =
      let l = (stands v.words 0 low (front k) c (cuts-in_order v.words 0 low (front k) (split k).0) i).lies in
      let a = l.before in let b = l.room in
      omega (arith, a, b)

  is-outside : (j : ℕ) → j < low → IsOutside (ranges_in v) j
  is-outside j l = let a = above in let e = a.eden in let p = a.past in (inl l, inl (omega (arith, l, e)), inl (omega (arith, l, p)))

  pub firsts-stay : (j : ℕ) → j < 5 → goes (first (store_of v) j) ≡ first (store_of v) j
  firsts-stay j l =
      let c = front-chunk k j l in
      let below = front-start-below c.0 c.1 in
      let is = c.2 in
      m.compacted.outside (first (store_of v) j) (is-outside (first (store_of v) j) (omega (arith, below, is)))

  -- a word of the free lists object is in no object of the map
  lists-word : (c : Chunk) → In (front k) c → c.start ≡ first (store_of v) 3 → (j : ℕ) → c.at ≤ j → j < c.at + c.size → get_or words j 0 ≡ get_or v.words j 0
  lists-word c i is j from to = m.compacted.loose j (is-outside j (let b = front-below c i in omega (arith, b, to))) (λ s on.
      let d = chunk-of k t s on in
      let told = told-at v.words 0 (length v.words) (chunks_of v) d.0 (order k) d.1 in
      let place : place_at v.words s ≡ d.0.at = ap (place_at v.words) (sym d.2) ∙ told.place in
      let end : end_at v.words s ≡ d.0.at + d.0.size = ap (end_at v.words) (sym d.2) ∙ (λ x. told.place x + told.size x) in
      let other : s ≢ first (store_of v) 3 = not-lists k t s on in
      let e = d.2 in
      elim (cases_lt c.start d.0.start) [
        | inl l ↦ let o = in_order v.words 0 (length v.words) (chunks_of v) c d.0 (order k) (front-in c i) d.1 l in inl (omega (arith, o, to, place))
        | inr l ↦ elim (cases_eq d.0.start c.start) [
          | inl same ↦ absurd (other (sym e ∙ same ∙ is))
          | inr apart ↦ let o = in_order v.words 0 (length v.words) (chunks_of v) d.0 c (order k) d.1 (front-in c i) (omega (arith, l, apart)) in inr (omega (arith, o, from, end))
        ]
      ])

  pub lists-kept : KeepsHead v.words words (first (store_of v) 3)
  lists-kept =
      let c = front-chunk k 3 (omega arith) in
      let l = stands v.words 0 low (front k) c.0 (cuts-in_order v.words 0 low (front k) (split k).0) c.1 in
      let lead = l.lies.lead in
      let room = l.lies.room in
      let is = c.2 in
      let h = shape v.words c.0 l.chunk in
      subst (KeepsHead v.words words) c.2 (record {
        header = lists-word c.0 c.1 c.2 c.0.start lead (omega (arith, room));
        lead = λ on.
            let at = h.lead in
            let one = ap (λ b. c.0.at + cond b 1 0) on in
            lists-word c.0 c.1 c.2 (c.0.start - 1) (omega (arith, at, one)) (omega (arith, room));
      })

  -- ---- the row of old space

  pub front-now : Cuts words 0 low (front k)
  front-now = front-cuts k t m.compacted.moved firsts-stay lists-kept

  abbrev pub rest : List Chunk
  rest = row words low v.spaces.old_end

  pub row-now : Cuts words 0 v.spaces.old_end (front k ++ rest)
  row-now = Cuts-append words 0 low v.spaces.old_end (front k) rest front-now m.cut.cuts

  pub in-row-now : InOrder words 0 v.spaces.old_end (front k ++ rest)
  in-row-now = cuts-in_order words 0 v.spaces.old_end (front k ++ rest) row-now

  -- ---- which chunks are free

  class-there : (s : ℕ) → is_there ((store_of v).cell s) ≡ true → class_of (get_or v.words s 0) ≢ 0
  class-there s on = (start-read heap_to v.words (length v.words) (chunks_of v) s (order k) (there_starts ((store_of v).cell s) on)).not_free

  pub object-taken : (s : ℕ) → has s ≡ true → is_free (get_or words s 0) ≡ false
  object-taken s on =
      let b = m.compacted.moved.back s on in
      let header : get_or words s 0 ≡ get_or v.words b.0 0 = ap (λ u. get_or words u 0) (sym b.2) ∙ (m.compacted.moved.objects b.0 b.1).header in
      ne_eqb (class_of (get_or words s 0)) 0 (λ e. class-there b.0 (there k t b.0 b.1) (ap class_of (sym header) ∙ e))

  pub front-taken : (c : Chunk) → In (front k) c → is_free (get_or words c.start 0) ≡ false
  front-taken c i =
      let n = front-number k c i in
      let on : is_there ((store_of v).cell c.start) ≡ true = ap (λ s. is_there ((store_of v).cell s)) n.2 ∙ k.sound.roots.objects n.0 n.1 in
      let header : get_or words c.start 0 ≡ get_or v.words c.start 0 = subst (λ s. get_or words s 0 ≡ get_or v.words s 0) (sym n.2) (first-heads k t m.compacted.moved firsts-stay lists-kept n.0 n.1).header in
      ne_eqb (class_of (get_or words c.start 0)) 0 (λ e. class-there c.start on (ap class_of (sym header) ∙ e))

  -- a free chunk of the row is one of the range, and it was written as a gap
  pub free-gap : (c : Chunk) → In (front k ++ rest) c → is_free (get_or words c.start 0) ≡ true → IsFree words c.at c.size
  free-gap c i on = elim (in_either (front k) rest c i) [
    | inl f ↦ absurd (false≢true (sym (front-taken c f) ∙ on))
    | inr r ↦ elim (m.cut.kinds c (listed rest c r)) [
      | inl taken ↦ absurd (false≢true (sym (object-taken c.start taken) ∙ on))
      | inr gap ↦ gap.free
    ]
  ]
