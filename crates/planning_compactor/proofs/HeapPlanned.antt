-- Marked objects of a heap go to their planned places, and how many words those of a space have.
use Rattle.std.proofs.Common.{◌≡◌, ◌≢◌, ℕ, Bool, true, false, cond, not, ◌&&◌, eqb, ◌+◌, ◌-◌, ◌<◌, ◌≤◌, List, [], ◌∷◌, ◌++◌, map, length, refl, sym, ap, ◌∙◌, subst, inl, inr, arith}
use Rattle.std.proofs.lemmas.Bool.{cases_Bool, cases_lt, false≢true}
use Rattle.std.proofs.lemmas.List.{map-append}
use Rattle.std.proofs.lemmas.List.Elements.{filter-append}
use Rattle.std.specs.List.{filter}
use Rattle.object_header.specs.Chunks.{Chunk, InOrder}
use Rattle.spur_graph.specs.Planned.{Marked, planned}
use Rattle.spur_graph.specs.Cells.{first}
use Rattle.spur_graph.specs.Spaces.{old_row, eden_row, past_row, young_row}
use Rattle.spur_graph.specs.Heaps.{IsWhole, View, store_of, chunks_of}
use Rattle.heap_cells.specs.Rows.{starts_of}
use Rattle.heap_cells.proofs.AddedRoom.{in_map as mapped_from}
use Rattle.heap_cells.proofs.Cutting.{cuts-in_order, stands}
use Rattle.heap_cells.proofs.Members.{In, filter_in, in_either, in_left, in_right, start_of_chunk}
use Rattle.heap_cells.proofs.Spaced.{young-in_order}
use Rattle.compaction_laws.specs.Compacting.{GoAsPlanned, IsTight, behind_roots, is_mapped, is_marked_object, marked_in}
use Rattle.compaction_laws.proofs.Fronts.{behind, front, front-behind, front-number, first-marked, firsts-rise, internal_three, split}
use Rattle.compaction_laws.proofs.Ready.{mapped}
use Rattle.planning_compactor.specs.Spans.{Laid, moves_in}
use Rattle.compaction_laws.specs.Compacting.{is_pinned}
use Rattle.planning_compactor.specs.Planning.{AreLaid, marks}
use Rattle.planning_compactor.specs.Compacted.{Agrees, moves_of}
use Rattle.planning_compactor.proofs.HeapReady.{chunk-of, eden-end, old-ready}
use Rattle.planning_compactor.proofs.Planned.{IsGoing, go-behind-packed, go-planned, row-packed}
use Rattle.planning_compactor.proofs.RowMarks.{AreOf, mark_of, row-marks}
use Rattle.planning_compactor.proofs.Starting.{range-laid}

filter-same : {A : Type 0} (f g : A → Bool) (xs : List A) → ((x : A) → In xs x → f x ≡ g x) → filter f xs ≡ filter g xs
filter-same f g [] same = refl
filter-same f g (x ∷ xs) same = λ i. cond (same x (inl refl) i) (x ∷ filter-same f g xs (λ y m. same y (inr m)) i) (filter-same f g xs (λ y m. same y (inr m)) i)

filter-all : {A : Type 0} (f : A → Bool) (xs : List A) → ((x : A) → In xs x → f x ≡ true) → filter f xs ≡ xs
filter-all f [] on = refl
filter-all f (x ∷ xs) on = ap (λ b. cond b (x ∷ filter f xs) (filter f xs)) (on x (inl refl)) ∙ ap (λ ys. x ∷ ys) (filter-all f xs (λ y m. on y (inr m)))

module _ {v : View} (k : IsWhole v) (t : IsTight v) where
  -- ---- one row

  -- a row of which each chunk that is marked moves
  pub record IsRow (at end : ℕ) (cs : List Chunk) : Type 0 where
    pub order : InOrder v.words at end cs
    pub all : AreOf (is_mapped v) v.words at end cs
    pub moves : (c : Chunk) → In cs c → is_mapped v c.start ≡ is_marked_object v c.start

  module _ {at end : ℕ} {cs : List Chunk} (row : IsRow at end cs) where
    marks-row : marks (is_mapped v) v.words at end ≡ marked_in v cs
    marks-row =
        row-marks (is_mapped v) v.words at end cs row.order row.all
        ∙ ap (map (mark_of v.words)) (filter-same (λ (c : Chunk). is_mapped v c.start) (λ (c : Chunk). is_marked_object v c.start) cs row.moves)

    going-row : (p : ℕ → ℕ) → ((s : ℕ) → is_mapped v s ≡ true → is_pinned v.words s ≡ true → p s ≡ s) → (m : Marked) → In (marked_in v cs) m → IsGoing p m
    going-row p pinned m i =
        let f = mapped_from (mark_of v.words) (filter (λ (c : Chunk). is_marked_object v c.start) cs) m i in
        let g = filter_in (λ (c : Chunk). is_marked_object v c.start) cs f.0 f.1 in
        let l = (stands v.words at end cs f.0 row.order g.0).lies.lead in
        subst (IsGoing p) f.2 (record { behind = l; pinned = λ on. pinned f.0.start (row.moves f.0 g.0 ∙ g.1) on })

    pub go-row : (p : ℕ → ℕ) → ((s : ℕ) → is_mapped v s ≡ true → is_pinned v.words s ≡ true → p s ≡ s) → Agrees p (moves_of (is_mapped v) v.words at end) → GoAsPlanned p at (marked_in v cs)
    go-row p pinned a =
        let e = marks-row in
        go-planned p at (marked_in v cs) (going-row p pinned) (subst (λ ms. Agrees p (moves_in ms (planned at ms))) e a)

  -- ---- the three rows

  -- the chunks of each stand where it is
  old-at : (c : Chunk) → In (old_row v.words v.spaces) c → c.start < v.spaces.old_end
  old-at c i = let l = (stands v.words 0 v.spaces.old_end (old_row v.words v.spaces) c (cuts-in_order v.words 0 v.spaces.old_end (old_row v.words v.spaces) k.rows.old) i).lies in let a = l.before in let b = l.room in omega (arith, a, b)

  eden-at : (c : Chunk) → In (eden_row v.words v.spaces) c → (v.spaces.eden_at ≤ c.start) × (c.start < v.spaces.eden_at + v.spaces.eden_used)
  eden-at c i =
      let l = (stands v.words v.spaces.eden_at (v.spaces.eden_at + v.spaces.eden_used) (eden_row v.words v.spaces) c (cuts-in_order v.words v.spaces.eden_at (v.spaces.eden_at + v.spaces.eden_used) (eden_row v.words v.spaces) k.rows.eden) i).lies in
      let a = l.after in let b = l.lead in let c = l.before in let d = l.room in
      (omega (arith, a, b), omega (arith, c, d))

  past-at : (c : Chunk) → In (past_row v.words v.spaces) c → v.spaces.past_at ≤ c.start
  past-at c i =
      let l = (stands v.words v.spaces.past_at (v.spaces.past_at + v.spaces.past_used) (past_row v.words v.spaces) c (cuts-in_order v.words v.spaces.past_at (v.spaces.past_at + v.spaces.past_used) (past_row v.words v.spaces) k.rows.past) i).lies in
      let a = l.after in let b = l.lead in
      omega (arith, a, b)

  behind-at : (c : Chunk) → In (behind k) c → behind_roots v ≤ c.start
  behind-at c i =
      let l = (stands v.words (behind_roots v) v.spaces.old_end (behind k) c (cuts-in_order v.words (behind_roots v) v.spaces.old_end (behind k) (split k).1) i).lies in
      let a = l.after in let b = l.lead in
      omega (arith, a, b)

  front-at : (c : Chunk) → In (front k) c → c.start < behind_roots v
  front-at c i =
      let l = (stands v.words 0 (behind_roots v) (front k) c (cuts-in_order v.words 0 (behind_roots v) (front k) (split k).0) i).lies in
      let a = l.before in let b = l.room in
      omega (arith, a, b)

  -- what starts behind the hidden roots moves where it is marked
  later-moves : (s : ℕ) → behind_roots v ≤ s → is_mapped v s ≡ is_marked_object v s
  later-moves s l = elim (cases_Bool (is_marked_object v s)) [
    | inl on ↦ mapped k t s on (λ e. let r = firsts-rise k 3 4 (omega arith) (omega arith) in omega (arith, l, r, e)) ∙ sym on
    | inr off ↦ ap (λ b. b && not (eqb s (first (store_of v) 3))) off ∙ sym off
  ]

  old-wide : behind_roots v ≤ v.spaces.old_end
  old-wide = (old-ready k t).laid.whole.0

  -- which row a chunk is of
  in-old : (s : ℕ) → is_mapped v s ≡ true → s < v.spaces.eden_at → (c : Chunk) × In (old_row v.words v.spaces) c × (c.start ≡ s)
  in-old s on l =
      let c = chunk-of k t s on in
      let e = c.2 in
      elim (in_either (old_row v.words v.spaces) (young_row v.words v.spaces) c.0 c.1) [
        | inl o ↦ (c.0, o, c.2)
        | inr y ↦ absurd (elim (in_either (eden_row v.words v.spaces) (past_row v.words v.spaces) c.0 y) [
          | inl f ↦ (let a = (eden-at c.0 f).0 in omega (arith, a, e, l))
          | inr f ↦ (let a = past-at c.0 f in let b = eden-end k t in omega (arith, a, e, l, b))
        ])
      ]

  behind-row : IsRow (behind_roots v) v.spaces.old_end (behind k)
  behind-row = record {
    order = cuts-in_order v.words (behind_roots v) v.spaces.old_end (behind k) (split k).1;
    all = λ s on l b.
        let c = in-old s on (let w = k.spaces.eden_behind in omega (arith, b, w)) in
        let e = c.2 in
        elim (in_either (front k) (behind k) c.0 (subst (λ cs. In cs c.0) (sym (front-behind k)) c.1)) [
          | inl f ↦ absurd (let a = front-at c.0 f in omega (arith, a, e, l))
          | inr f ↦ subst (In (starts_of (behind k))) c.2 (start_of_chunk (behind k) c.0 f)
        ];
    moves = λ c i. later-moves c.start (behind-at c i);
  }

  pub eden-row : IsRow v.spaces.eden_at (v.spaces.eden_at + v.spaces.eden_used) (eden_row v.words v.spaces)
  eden-row = record {
    order = cuts-in_order v.words v.spaces.eden_at (v.spaces.eden_at + v.spaces.eden_used) (eden_row v.words v.spaces) k.rows.eden;
    all = λ s on l b.
        let c = chunk-of k t s on in
        let e = c.2 in
        elim (in_either (old_row v.words v.spaces) (young_row v.words v.spaces) c.0 c.1) [
          | inl o ↦ absurd (let a = old-at c.0 o in let w = k.spaces.eden_behind in omega (arith, a, e, l, w))
          | inr y ↦ elim (in_either (eden_row v.words v.spaces) (past_row v.words v.spaces) c.0 y) [
            | inl f ↦ subst (In (starts_of (eden_row v.words v.spaces))) c.2 (start_of_chunk (eden_row v.words v.spaces) c.0 f)
            | inr f ↦ absurd (let a = past-at c.0 f in let w = eden-end k t in omega (arith, a, e, b, w))
          ]
        ];
    moves = λ c i. later-moves c.start (let a = (eden-at c i).0 in let w = k.spaces.eden_behind in let o = old-wide in omega (arith, a, w, o));
  }

  pub past-row : IsRow v.spaces.past_at (v.spaces.past_at + v.spaces.past_used) (past_row v.words v.spaces)
  past-row = record {
    order = cuts-in_order v.words v.spaces.past_at (v.spaces.past_at + v.spaces.past_used) (past_row v.words v.spaces) k.rows.past;
    all = λ s on l b.
        let c = chunk-of k t s on in
        let e = c.2 in
        let w = eden-end k t in
        elim (in_either (old_row v.words v.spaces) (young_row v.words v.spaces) c.0 c.1) [
          | inl o ↦ absurd (let a = old-at c.0 o in let x = k.spaces.eden_behind in omega (arith, a, e, l, w, x))
          | inr y ↦ elim (in_either (eden_row v.words v.spaces) (past_row v.words v.spaces) c.0 y) [
            | inl f ↦ absurd (let a = (eden-at c.0 f).1 in omega (arith, a, e, l, w))
            | inr f ↦ subst (In (starts_of (past_row v.words v.spaces))) c.2 (start_of_chunk (past_row v.words v.spaces) c.0 f)
          ]
        ];
    moves = λ c i. later-moves c.start (let a = past-at c i in let w = k.spaces.eden_behind in let o = old-wide in let x = eden-end k t in omega (arith, a, w, o, x));
  }

  -- ---- places

  -- the front of old space stays, and what is behind it goes
  marked-old : marked_in v (old_row v.words v.spaces) ≡ map (mark_of v.words) (front k) ++ marked_in v (behind k)
  marked-old =
      ap (marked_in v) (sym (front-behind k))
      ∙ ap (map (mark_of v.words)) (filter-append (λ (c : Chunk). is_marked_object v c.start) (front k) (behind k))
      ∙ map-append (mark_of v.words) (filter (λ (c : Chunk). is_marked_object v c.start) (front k)) (filter (λ (c : Chunk). is_marked_object v c.start) (behind k))
      ∙ ap (λ cs. map (mark_of v.words) cs ++ marked_in v (behind k)) (filter-all (λ (c : Chunk). is_marked_object v c.start) (front k) (λ c i. let n = front-number k c i in ap (is_marked_object v) n.2 ∙ first-marked k t n.0 n.1))

  laid-behind : Laid (behind_roots v) v.spaces.old_end (marked_in v (behind k))
  laid-behind = subst (Laid (behind_roots v) v.spaces.old_end) (marks-row behind-row) (range-laid (is_mapped v) v.words (behind_roots v) v.spaces.old_end (old-ready k t).laid)

  pub go-old : (p : ℕ → ℕ) → ((j : ℕ) → j < 5 → p (first (store_of v) j) ≡ first (store_of v) j) → ((s : ℕ) → is_mapped v s ≡ true → is_pinned v.words s ≡ true → p s ≡ s)
      → Agrees p (moves_of (is_mapped v) v.words (behind_roots v) v.spaces.old_end) → GoAsPlanned p 0 (marked_in v (old_row v.words v.spaces))
  go-old p firsts pinned a = subst (GoAsPlanned p 0) (sym marked-old) (go-behind-packed p 0 (behind_roots v) v.spaces.old_end (map (mark_of v.words) (front k)) (marked_in v (behind k))
      (row-packed v.words 0 (behind_roots v) (front k) (split k).0) laid-behind
      (λ m i.
      let f = mapped_from (mark_of v.words) (front k) m i in
      let n = front-number k f.0 f.1 in
      let l = (stands v.words 0 (behind_roots v) (front k) f.0 (cuts-in_order v.words 0 (behind_roots v) (front k) (split k).0) f.1).lies.lead in
      subst (λ (x : Marked). (x.at ≤ x.start) × (p x.start ≡ x.start)) f.2 (l, ap p n.2 ∙ firsts n.0 n.1 ∙ sym n.2))
      (go-row behind-row p pinned a))
