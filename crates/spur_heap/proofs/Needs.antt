-- A need of words that is asked of a heap: what the free lists tell of it, and where the words are that serve it.
use Rattle.std.proofs.Common.{◌≡◌, ℕ, ◌+◌, ◌≤◌, List, length, sym, ap, ◌∙◌, subst, arith, inl, inr, Some, None, Option, MatchOption}
use Rattle.spur_graph.specs.Serve.{OldAlone, serve}
use Rattle.spur_graph.specs.Spaces.{old_row}
use Rattle.spur_graph.specs.Heaps.{View, heap_room}
use Rattle.free_lists.specs.Rows.{free_runs}
use Rattle.free_lists.specs.Lists.{Lists, Takes, NoneFits}
use Rattle.free_lists.specs.declared.lists.FreeLists.{FreeLists}
use Rattle.spur_heap.specs.declared.heap.HeapParts.{HeapParts}
use Rattle.spur_heap.specs.Parts.{view_of, ArePartsOfHeap}
use Rattle.spur_heap.proofs.Figures.{eden_room}
use Rattle.spur_heap.proofs.RunSizes.{nothing_serves}

module _ (p : HeapParts) (k : ArePartsOfHeap p) (need : ℕ) where
  abbrev v : View
  v = view_of p

  abbrev pub runs : List (ℕ × ℕ)
  runs = free_runs p.region (old_row v.words v.spaces)

  -- ---- in old space

  -- what is told of a taking of so many words
  abbrev pub Told : List ℕ → FreeLists → ℕ → Option ℕ → Type 0
  Told mid free' n r = (rs : List (ℕ × ℕ)) → Lists p.region p.free rs → MatchOption r (NoneFits rs n) (Takes mid free' rs n)

  pub took : (mid : List ℕ) (free' : FreeLists) (n at : ℕ) (r : Option ℕ) → n ≡ need → r ≡ Some at → Told mid free' n r → Takes mid free' runs need at
  took mid free' n at r is e told =
      subst (λ m. Takes mid free' runs m at) is (subst (λ (x : Option ℕ). MatchOption x (NoneFits runs n) (Takes mid free' runs n)) e (told runs k.free_chunks.lists))

  pub none_served : (mid : List ℕ) (free' : FreeLists) (n : ℕ) (r : Option ℕ) → n ≡ need → r ≡ None → Told mid free' n r → serve OldAlone (heap_room v) need ≡ None
  none_served mid free' n r is e told =
      ap (serve OldAlone (heap_room v)) (sym is) ∙ nothing_serves v k.whole n (subst (λ (x : Option ℕ). MatchOption x (NoneFits runs n) (Takes mid free' runs n)) e (told runs k.free_chunks.lists))

  pub old_inside : (mid : List ℕ) (free' : FreeLists) (at : ℕ) → Takes mid free' runs need at → length mid ≡ length p.region → at + need ≤ length mid
  old_inside mid free' at takes long =
      let here = k.free_chunks.lists.chunks (at, takes.size) takes.fitting.there in
      elim takes.fitting.fits [ inl e ↦ omega (arith, e, here.inside, long) | inr l ↦ omega (arith, l, here.inside, long) ]

  -- ---- in eden

  pub eden_fits : need ≤ (heap_room v).eden_left → p.eden_used + need ≤ p.limits.eden
  eden_fits left = let e = eden_room v k.whole in let u = k.whole.spaces.eden_fits in omega (arith, e, u, left)

  pub eden_inside : need ≤ (heap_room v).eden_left → p.eden_at + p.eden_used + need ≤ length p.region
  eden_inside left =
      let fits = eden_fits left in
      let x = k.whole.spaces.first_behind in
      let y = k.whole.spaces.second_behind in
      let z = k.whole.spaces.last in
      omega (arith, fits, x, y, z)
