-- A heap whose objects have moved, and whose free chunks are in lists, is compacted.
use Rattle.std.proofs.Common.{◌≡◌, ℕ, Bool, true, false, cond, ◌&&◌, eqb, ◌+◌, ◌-◌, ◌<◌, ◌≤◌, ◌⊎◌, List, [], ◌∷◌, ◌++◌, get_or, refl, sym, ap, ◌∙◌, subst, inl, inr, arith}
use Rattle.std.proofs.lemmas.Bool.{cases_lt, eq-eqb}
use Rattle.std.specs.List.{Contains}
use Rattle.object_header.specs.Fields.{fields_of}
use Rattle.object_header.specs.Head.{class_of}
use Rattle.object_header.specs.Chunks.{Chunk, leads, Cuts, row, slots_at}
use Rattle.free_lists.specs.Rows.{is_free}
use Rattle.spur_graph.specs.Cells.{first}
use Rattle.spur_graph.specs.Heaps.{IsWhole, View, store_of}
use Rattle.heap_walk.specs.Shapes.{lead_at, place_at, end_at}
use Rattle.heap_cells.specs.Rows.{starts_of}
use Rattle.heap_cells.proofs.AddedRoom.{count-members}
use Rattle.heap_cells.proofs.Cutting.{cuts-in_order, row-is, shape, stands}
use Rattle.heap_cells.proofs.Members.{In, chunk_of_start, in_left, in_list, in_right, listed}
use Rattle.heap_cells.proofs.Writing.{keeps-same, row-kept}
use Rattle.heap_laws.specs.Compaction.{IsMovedBy, MovedBy}
use Rattle.compaction_laws.specs.Compacting.{IsCut, IsFreeHead, IsFull, IsTight, KeepsHead, behind_roots, free_count, is_mapped, is_pinned, pinned_count}
use Rattle.compaction_laws.proofs.Fronts.{front, front-chunk, split}
use Rattle.planning_compactor.specs.Objects.{AreObjects}
use Rattle.planning_compactor.proofs.FreeRows.{IsRelisted, free-head, header-kept, kept-words, same-row, words-beyond}
use Rattle.planning_compactor.proofs.HeapMoved.{HasMoved, above, front-now, front-taken, in-front, in-row-now, lists-kept, object-taken, rest}
use Rattle.planning_compactor.proofs.HeapReady.{chunk-of, objects}
use Rattle.planning_compactor.proofs.RowMarks.{told-at}
use Rattle.planning_compactor.proofs.Shapes.{lead-low, lead-one, slots_at-moved}
use Rattle.planning_compactor.proofs.Told.{object-moved}

-- a row behind another one of as many words
cuts-behind : (words new : List ℕ) (at mid end : ℕ) (xs ys : List Chunk) → Cuts words at mid xs → Cuts new at end (xs ++ ys) → Cuts new mid end ys
cuts-behind words new at mid end [] ys t u = subst (λ a. Cuts new a end ys) t u
cuts-behind words new at mid end (x ∷ xs) ys t u = cuts-behind words new (at + x.size) mid end xs ys t.1 u.1

-- an object has moved where its words are those that it had when it had
module _ {has : ℕ → Bool} {w : List ℕ} (o : AreObjects has w) (p : ℕ → ℕ) (now new : List ℕ) (t s : ℕ) (g : has t ≡ true) (m : IsMovedBy p w now t s) (l : lead_at now s ≤ s)
    (same : (j : ℕ) → place_at now s ≤ j → j < end_at now s → get_or new j 0 ≡ get_or now j 0)
  where
    header-same : get_or new s 0 ≡ get_or now s 0
    header-same = same s (omega arith) (omega (arith, l))

    before-same : leads (get_or now s 0) ≡ true → get_or new (s - 1) 0 ≡ get_or now (s - 1) 0
    before-same on = let e = lead-one now s on in same (s - 1) (omega (arith, e)) (omega (arith, e, l))

    slot-same : (i : ℕ) → i < slots_at w t → get_or new (s + 1 + i) 0 ≡ get_or now (s + 1 + i) 0
    slot-same i b = let e = m.slots in same (s + 1 + i) (omega arith) (omega (arith, b, e, l))

    pub kept-moved : IsMovedBy p w new t s
    kept-moved = object-moved p w new t s (o.methods t g) (header-same ∙ m.header) (λ on. before-same (ap leads m.header ∙ on) ∙ m.lead on) (slots_at-moved now new s s header-same before-same ∙ m.slots)
        (λ i b. let f = o.fits t g in slot-same i (omega (arith, b, f)) ∙ m.pointers i b)
        (λ i a b. slot-same i b ∙ m.others i a b)

module _ {v : View} {goes : ℕ → ℕ} {has : ℕ → Bool} {words new : List ℕ} (k : IsWhole v) (t : IsTight v) (m : HasMoved v goes has words) (r : IsRelisted words new v.spaces.old_end (front k ++ rest k t m)) where
  abbrev low : ℕ
  low = behind_roots v

  abbrev all : List Chunk
  all = front k ++ rest k t m

  -- what starts before the range was there
  stayed : (s : ℕ) → has s ≡ true → s < low → is_mapped v s ≡ true
  stayed s on l =
      let b = m.compacted.moved.back s on in
      let e = b.2 in
      let a = above k t m in
      let aw = a.eden in
      let pw = a.past in
      let out : (b.0 < low) ⊎ (v.spaces.old_end ≤ b.0) = not-in low v.spaces.old_end b.0 (λ x y. let z = (m.compacted.in_old_space b.0 x y).0 in omega (arith, z, e, l)) in
      let out-eden : (b.0 < v.spaces.eden_at) ⊎ (v.spaces.eden_at + v.spaces.eden_used ≤ b.0) = not-in v.spaces.eden_at (v.spaces.eden_at + v.spaces.eden_used) b.0 (λ x y. let z = (m.compacted.in_eden b.0 x y).0 in omega (arith, z, e, l, aw)) in
      let out-past : (b.0 < v.spaces.past_at) ⊎ (v.spaces.past_at + v.spaces.past_used ≤ b.0) = not-in v.spaces.past_at (v.spaces.past_at + v.spaces.past_used) b.0 (λ x y. let z = (m.compacted.in_past_space b.0 x y).0 in omega (arith, z, e, l, pw)) in
      ap (is_mapped v) (sym b.2 ∙ m.compacted.outside b.0 (out, out-eden, out-past)) ∙ b.1
    where
      not-in : (from end x : ℕ) → (from ≤ x → x < end → ⊥) → (x < from) ⊎ (end ≤ x)
      not-in from end x off = elim (cases_lt x from) [ inl a ↦ inl a | inr a ↦ elim (cases_lt x end) [ inl b ↦ absurd (off a b) | inr b ↦ inr b ] ]

  -- the chunk of what starts in old space
  chunk-now : (s : ℕ) → has s ≡ true → s < v.spaces.old_end → (c : Chunk) × In all c × (c.start ≡ s)
  chunk-now s on l = elim (cases_lt s low) [
    | inl b ↦
        let c = chunk-of k t s (stayed s on b) in
        let e = c.2 in
        (c.0, in_left (front k) (rest k t m) c.0 (in-front k t m c.0 c.1 (omega (arith, e, b))), c.2)
    | inr b ↦
        let c = chunk_of_start (rest k t m) s (in_list (starts_of (rest k t m)) s (m.cut.starts s (on, b, l))) in
        (c.0, in_right (front k) (rest k t m) c.0 c.1, c.2)
  ]

  -- the words of an object are as they were
  run-same : (s : ℕ) → has s ≡ true → (j : ℕ) → place_at words s ≤ j → j < end_at words s → get_or new j 0 ≡ get_or words j 0
  run-same s on j from to = elim (cases_lt s v.spaces.old_end) [
    | inr high ↦ words-beyond r j (let z = m.laid.above s on high in omega (arith, z, from))
    | inl l ↦
        let c = chunk-now s on l in
        let told = told-at words 0 v.spaces.old_end all c.0 (in-row-now k t m) c.1 in
        let place : place_at words s ≡ c.0.at = ap (place_at words) (sym c.2) ∙ told.place in
        let end : end_at words s ≡ c.0.at + c.0.size = ap (end_at words) (sym c.2) ∙ (λ i. told.place i + told.size i) in
        kept-words r c.0 c.1 (ap (λ x. is_free (get_or words x 0)) c.2 ∙ object-taken k t m s on) j (omega (arith, place, from)) (omega (arith, end, to))
  ]

  pub moved-new : MovedBy goes (is_mapped v) has v.words new
  moved-new = record {
    same_words = r.long ∙ m.compacted.moved.same_words;
    there = m.compacted.moved.there;
    back = m.compacted.moved.back;
    once = m.compacted.moved.once;
    objects = λ u g.
        let on = m.compacted.moved.there u g in
        kept-moved (objects k t) goes words new u (goes u) g (m.compacted.moved.objects u g) (lead-low words (goes u) (m.laid.stands (goes u) on)) (run-same (goes u) on);
  }

  -- ---- the free lists object

  front-same : (c : Chunk) → In (front k) c → (j : ℕ) → c.at ≤ j → j < c.at + c.size → get_or new j 0 ≡ get_or words j 0
  front-same c i = kept-words r c (in_left (front k) (rest k t m) c i) (front-taken k t m c i)

  pub lists-new : KeepsHead v.words new (first (store_of v) 3)
  lists-new =
      let h = lists-kept k t m in
      let c = front-chunk k 3 (omega arith) in
      let l = stands v.words 0 low (front k) c.0 (cuts-in_order v.words 0 low (front k) (split k).0) c.1 in
      let lead = l.lies.lead in
      let room = l.lies.room in
      let is = c.2 in
      let s = shape v.words c.0 l.chunk in
      record {
        header = ap (λ x. get_or new x 0) (sym c.2) ∙ front-same c.0 c.1 c.0.start lead (omega (arith, room)) ∙ ap (λ x. get_or words x 0) c.2 ∙ h.header;
        lead = λ on.
            let at = s.lead in
            let one = ap (λ b. c.0.at + cond b 1 0) (ap (λ x. leads (get_or v.words x 0)) c.2 ∙ on) in
            ap (λ x. get_or new (x - 1) 0) (sym c.2) ∙ front-same c.0 c.1 (c.0.start - 1) (omega (arith, at, one)) (omega (arith, room)) ∙ ap (λ x. get_or words (x - 1) 0) c.2 ∙ h.lead on;
      }

  -- ---- the row of the range

  rest-all : (c : Chunk) → In (rest k t m) c → In all c
  rest-all c i = in_right (front k) (rest k t m) c i

  behind-front : Cuts new low v.spaces.old_end (rest k t m)
  behind-front = cuts-behind words new 0 low v.spaces.old_end (front k) (rest k t m) (front-now k t m) (same-row r)

  row-behind : row new low v.spaces.old_end ≡ rest k t m
  row-behind = row-is new low v.spaces.old_end (rest k t m) behind-front

  kind-new : (c : Chunk) → In (rest k t m) c → (has c.start ≡ true) ⊎ IsFreeHead (get_or new c.start 0)
  kind-new c i = elim (m.cut.kinds c (listed (rest k t m) c i)) [
    | inl on ↦ inl on
    | inr gap ↦ inr (free-head r c (rest-all c i) (eq-eqb (class_of (get_or words c.start 0)) 0 gap.class))
  ]

  pub cut-new : IsCut has new low v.spaces.old_end
  cut-new = record {
    cuts = subst (Cuts new low v.spaces.old_end) (sym row-behind) behind-front;
    starts = λ s on l b. subst (λ cs. Contains (starts_of cs) s) (sym row-behind) (m.cut.starts s (on, l, b));
    kinds = λ c i. kind-new c (subst (λ cs. In cs c) row-behind (in_list (row new low v.spaces.old_end) c i));
  }

  pinned-same : (c : Chunk) → In (rest k t m) c → (has c.start && is_pinned new c.start) ≡ (has c.start && is_pinned words c.start)
  pinned-same c i = where-first (has c.start) (is_pinned new c.start) (is_pinned words c.start) (λ on. ap (λ w. eqb (fields_of w).pinned 1) (header-kept r c (rest-all c i) (object-taken k t m c.start on)))
    where
      where-first : (a b b' : Bool) → (a ≡ true → b ≡ b') → (a && b) ≡ (a && b')
      where-first true b b' same = same refl
      where-first false b b' same = refl

  pub few-new : free_count has (rest k t m) ≤ pinned_count has words (rest k t m) + 1 → free_count has (row new low v.spaces.old_end) ≤ pinned_count has new (row new low v.spaces.old_end) + 1
  few-new few =
      let free : free_count has (row new low v.spaces.old_end) ≡ free_count has (rest k t m) = ap (free_count has) row-behind in
      let pins : pinned_count has new (row new low v.spaces.old_end) ≡ pinned_count has words (rest k t m) =
      ap (pinned_count has new) row-behind ∙ count-members (λ (c : Chunk). has c.start && is_pinned new c.start) (λ (c : Chunk). has c.start && is_pinned words c.start) (rest k t m) pinned-same in
      omega (arith, few, free, pins)

  -- ---- new space

  -- a range behind old space is cut as it was
  pub full-new : (from end last : ℕ) → v.spaces.old_end ≤ from → IsFull has words from end last → IsFull has new from end last
  full-new from end last l f =
      let cuts : Cuts new from last (row words from last) = row-kept words new from last (row words from last) f.cuts (λ c i.
      let s = (stands words from last (row words from last) c (cuts-in_order words from last (row words from last) f.cuts) i).lies in
      let a = s.after in
      let b = s.lead in
      keeps-same words new c (words-beyond r c.at (omega (arith, a, l))) (words-beyond r c.start (omega (arith, a, b, l)))) in
      let same : row new from last ≡ row words from last = row-is new from last (row words from last) cuts in
      record {
        within = f.within;
        cuts = subst (Cuts new from last) (sym same) cuts;
        starts = λ s on a b. subst (λ cs. Contains (starts_of cs) s) (sym same) (f.starts s on a b);
        objects = λ c i. f.objects c (subst (λ cs. Contains cs c) same i);
      }
