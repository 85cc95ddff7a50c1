-- What is left in the map of a heap where only marked objects are kept, and how many ordinary objects are left.
use Rattle.std.proofs.Common.{◌≡◌, ◌≢◌, ℕ, Bool, true, false, cond, not, ◌&&◌, ◌+◌, ◌<◌, ◌≤◌, eqb, List, [], ◌∷◌, length, get_or, refl, sym, ap, ◌∙◌, subst, inl, inr, arith}
use Rattle.std.proofs.lemmas.Bool.{and_parts, and_right, cases_Bool, cases_eq, eq-eqb, false≢true, ne_eqb}
use Rattle.std.proofs.lemmas.List.{length-map}
use Rattle.std.proofs.lemmas.List.Sums.{length-filter, sum_by-cons}
use Rattle.std.specs.List.{count_by, filter}
use Rattle.object_header.specs.Head.{class_of}
use Rattle.object_header.specs.Fields.{fields_of}
use Rattle.object_header.specs.Chunks.{Chunk}
use Rattle.heap_walk.specs.Starts.{has_start}
use Rattle.spur_graph.specs.Planned.{Marked}
use Rattle.spur_graph.specs.Cells.{Store, first, is_moved, is_start, is_there}
use Rattle.spur_graph.specs.Ordinary.{is_internal, is_ordinary, ordinary_starts}
use Rattle.spur_graph.specs.Heaps.{View, heap_to, is_marked, store_of, chunks_of}
use Rattle.heap_cells.specs.Rows.{starts_of}
use Rattle.heap_cells.proofs.AddedRoom.{count-members}
use Rattle.heap_cells.proofs.CellKinds.{no_start_is_not_there, start_is_there_or_moved, there_starts}
use Rattle.heap_cells.proofs.Cutting.{start-in, stands}
use Rattle.heap_cells.proofs.Members.{In, start_of_chunk}
use Rattle.heap_cells.proofs.Starts.{start-read}
use Rattle.spur_heap.specs.Parts.{view_of, ArePartsOfHeap}
use Rattle.spur_heap.specs.declared.heap.HeapParts.{HeapParts}
use Rattle.compaction_laws.specs.Compacting.{IsTight, is_mapped, is_marked_object}
use Rattle.compaction_laws.proofs.Counts.{all-ordinary, count-ordinary}
use Rattle.compaction_laws.proofs.Fronts.{order}
use Rattle.planning_compactor.specs.Planning.{marks}
use Rattle.planning_compactor.specs.Ranges.{is_lost}
use Rattle.planning_compactor.proofs.RowMarks.{mark_of, row-marks}

-- those that pass a test, in two parts
count-parts : {A : Type 0} (f g : A → Bool) (xs : List A) → count_by (λ x. f x && not (g x)) xs + count_by (λ x. f x && g x) xs ≡ count_by f xs
count-parts f g [] = refl
count-parts f g (x ∷ xs) =
    let rest = count-parts f g xs in
    let a = sum_by-cons (λ y. cond (f y && not (g y)) 1 0) x xs in
    let b = sum_by-cons (λ y. cond (f y && g y) 1 0) x xs in
    let c = sum_by-cons (λ y. cond (f y) 1 0) x xs in
    let here = one (f x) (g x) in
    omega (arith, rest, a, b, c, here)
  where
    one : (p q : Bool) → cond (p && not q) 1 0 + cond (p && q) 1 0 ≡ cond p 1 0
    one true true = refl
    one true false = refl
    one false q = refl

module _ {p : HeapParts} (k : ArePartsOfHeap p) (t : IsTight (view_of p)) where
  abbrev v : View
  v = view_of p

  abbrev h : Store
  h = store_of v

  -- whatever starts is an object where its header is not that of a forwarder
  there-told : (s : ℕ) → is_start (h.cell s) ≡ true → is_there (h.cell s) ≡ not (eqb (class_of (get_or p.region s 0)) 8)
  there-told s on = start_is_there_or_moved (h.cell s) on ∙ ap not (start-read heap_to p.region (length p.region) (chunks_of v) s (order k.whole) on).moved

  -- an object that is not marked is ordinary
  lost-ordinary : (s : ℕ) → is_lost (has_start p.starts) p.region s ≡ (is_ordinary h s && not (is_marked p.region s))
  lost-ordinary s = ap (λ b. b && (not (is_marked p.region s) && not (eqb (class_of (get_or p.region s 0)) 8))) (k.map.starts s) ∙ elim (cases_Bool (is_start (h.cell s))) [
    | inr off ↦
        ap (λ b. b && (not (is_marked p.region s) && not (eqb (class_of (get_or p.region s 0)) 8))) off
        ∙ sym (ap (λ b. b && not (is_internal h s) && not (is_marked p.region s)) (no_start_is_not_there (h.cell s) off))
    | inl on ↦ elim (cases_Bool (is_marked p.region s)) [
      | inl marked ↦ (λ i. on i && (not (marked i) && not (eqb (class_of (get_or p.region s 0)) 8))) ∙ sym (ap (λ b. is_ordinary h s && not b) marked ∙ and_right (is_ordinary h s) false refl)
      | inr unmarked ↦
          let outer : is_internal h s ≡ false = elim (cases_Bool (is_internal h s)) [ inr off ↦ off | inl internal ↦ absurd (false≢true (sym unmarked ∙ t.internal s internal)) ] in
          (λ i. on i && (not (unmarked i) && sym (there-told s on) i)) ∙ alone (is_there (h.cell s)) ∙ sym (λ i. is_there (h.cell s) && not (outer i) && not (unmarked i))
    ]
  ]
    where
      alone : (b : Bool) → (true && (true && b)) ≡ (b && true && true)
      alone true = refl
      alone false = refl

  -- those that go, and those that are left
  pub lost-count : length (marks (is_lost (has_start p.starts) p.region) p.region 0 (length p.region)) + length (filter (is_marked p.region) (ordinary_starts h)) ≡ length (ordinary_starts h)
  lost-count =
      let cs : List Chunk = chunks_of v in
      let lost : ℕ → Bool = is_lost (has_start p.starts) p.region in
      let is : length (marks lost p.region 0 (length p.region)) ≡ count_by (λ (c : Chunk). is_ordinary h c.start && not (is_marked p.region c.start)) cs =
      ap (λ (ms : List Marked). length ms) (row-marks lost p.region 0 (length p.region) cs (order k.whole) (λ s on l b.
      let r = start-in heap_to p.region cs s (sym (k.map.starts s) ∙ (and_parts (has_start p.starts s) (not (is_marked p.region s) && not (eqb (class_of (get_or p.region s 0)) 8)) on).0) in
      subst (In (starts_of cs)) r.2 (start_of_chunk cs r.0 r.1)))
      ∙ length-map (filter (λ (c : Chunk). lost c.start) cs) (mark_of p.region) ∙ length-filter (λ (c : Chunk). lost c.start) cs
      ∙ count-members (λ (c : Chunk). lost c.start) (λ (c : Chunk). is_ordinary h c.start && not (is_marked p.region c.start)) cs (λ c m. lost-ordinary c.start) in
      let marked = count-ordinary h cs (is_marked p.region) refl in
      let all = all-ordinary h cs refl in
      let parts = count-parts (λ (c : Chunk). is_ordinary h c.start) (λ (c : Chunk). is_marked p.region c.start) cs in
      omega (arith, is, marked, all, parts)

  -- ---- the map

  -- a start is that of a word
  pub start-below : (s : ℕ) → has_start p.starts s ≡ true → s < length p.region
  start-below s on =
      let r = start-in heap_to p.region (chunks_of v) s (sym (k.map.starts s) ∙ on) in
      let l = (stands p.region 0 (length p.region) (chunks_of v) r.0 (order k.whole) r.1).lies in
      let a = l.room in let b = l.before in let e = r.2 in
      omega (arith, a, b, e)

  -- that of the free lists object is in the map
  pub lists-there : has_start p.starts (first h 3) ≡ true
  lists-there = k.map.starts (first h 3) ∙ there_starts (h.cell (first h 3)) (k.whole.sound.roots.objects 3 (omega arith))

  -- what starts and is marked is an object
  marked-there : (s : ℕ) → is_start (h.cell s) ≡ true → is_marked p.region s ≡ is_marked_object v s
  marked-there s on = elim (cases_Bool (is_moved (h.cell s))) [
    | inl moved ↦ t.forwarders s moved ∙ sym (and_right (is_there (h.cell s)) (is_marked p.region s) (t.forwarders s moved))
    | inr still ↦ sym (ap (λ b. b && is_marked p.region s) (start_is_there_or_moved (h.cell s) on ∙ ap not still))
  ]

  -- the map with the starts of marked objects alone, without the free lists object
  pub swept-map : (has swept : ℕ → Bool) → ((s : ℕ) → has_start p.starts s ≡ true → has s ≡ is_marked p.region s) → ((s : ℕ) → has_start p.starts s ≡ false → has s ≡ false)
      → swept (first h 3) ≡ false → ((s : ℕ) → s ≢ first h 3 → swept s ≡ has s) → (s : ℕ) → swept s ≡ is_mapped v s
  swept-map has swept kept gone off others s = elim (cases_eq s (first h 3)) [
    | inl e ↦ ap swept e ∙ off ∙ sym (and_right (is_marked_object v s) (not (eqb s (first h 3))) (ap not (eq-eqb s (first h 3) e)))
    | inr n ↦
        let apart : not (eqb s (first h 3)) ≡ true = ap not (ne_eqb s (first h 3) n) in
        others s n ∙ elim (cases_Bool (is_start (h.cell s))) [
          | inl on ↦ kept s (k.map.starts s ∙ on) ∙ marked-there s on ∙ sym (and-true (is_marked_object v s) (not (eqb s (first h 3))) apart)
          | inr none ↦ gone s (k.map.starts s ∙ none) ∙ sym (ap (λ b. b && is_marked p.region s && not (eqb s (first h 3))) (no_start_is_not_there (h.cell s) none))
        ]
  ]
    where
      and-true : (a b : Bool) → b ≡ true → (a && b) ≡ a
      and-true true b e = e
      and-true false b e = refl
