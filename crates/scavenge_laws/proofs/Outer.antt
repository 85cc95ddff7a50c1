-- What stands outside the space that is being left, and where chains end.
use Rattle.std.proofs.Common.{◌≡◌, ℕ, suc, zero, Bool, true, false, not, ◌&&◌, ◌||◌, ◌*◌, ◌/◌, ◌%◌, ◌<◌, cond, Some, None, eqb, refl, sym, ap, ◌∙◌, inl, inr, arith}
use Rattle.std.proofs.lemmas.Bool.{false≢true, cases_Bool, cases_eq, cases_lt, eq-eqb, ne_eqb, or_left, or_right, false_from_ne_true}
use Rattle.std.proofs.lemmas.Option.{same_Some}
use Rattle.spur_graph.specs.Chains.{hop, follow}
use Rattle.spur_graph.specs.Cells.{Cell, Empty, Moved, There, Store, is_moved, is_start, is_there, first, final, any_below}
use Rattle.spur_graph.specs.Ordinary.{is_at, tells, root_slot, roots_slots, page_places, is_first, is_internal, is_ordinary}
use Rattle.heap_cells.proofs.Below.{any_below-none, any_below-has, at-named}
use Rattle.heap_cells.proofs.CellKinds.{start_is_there_or_moved}
use Rattle.heap_cells.proofs.Internals.{IsPageAt, a_page, place_cases, not_first}
use Rattle.heap_cells.proofs.WholeClosed.{sound_loadable}
use Rattle.heap_cells.proofs.Chains.{moves, forwards, final-there, good_forwarder_ends}
use Rattle.scavenge_laws.specs.Copying.{IsClear, IsHeapStore, StandOutside}

-- a start leads to an object
pub leads_there : (h : Store) → IsHeapStore h → (s : ℕ) → is_start (h.cell s) ≡ true → is_there (h.cell (final h s)) ≡ true
leads_there h k s e = elim (cases_Bool (is_moved (h.cell s))) [
  | inl on ↦ good_forwarder_ends h s (k.store.sound.ends s) on
  | inr off ↦
      let there : is_there (h.cell s) ≡ true = start_is_there_or_moved (h.cell s) e ∙ ap not off in
      ap (λ t. is_there (h.cell t)) (final-there h s there) ∙ there
]

-- the free lists object and the hidden roots are internal
pub internal_three : (h : Store) → is_internal h (first h 3) ≡ true
unfolding is_internal
internal_three h = or_left _ _ (or_left _ _ (eq-eqb (first h 3) (first h 3) refl))

pub internal_four : (h : Store) → is_internal h (first h 4) ≡ true
unfolding is_internal
internal_four h = or_left _ _ (or_right _ _ (eq-eqb (first h 4) (first h 4) refl))

-- and so is a page
pub page_internal : (h : Store) (j s : ℕ) → j < page_places → IsPageAt h j s → is_internal h s ≡ true
unfolding is_internal
page_internal h j s l at =
    let told : tells h j s ≡ true = ap (is_at s) at.named ∙ eq-eqb s s refl in
    let some : any_below (λ i. tells h i s) page_places ≡ true = any_below-has (λ i. tells h i s) page_places j l told in
    let nil : eqb s (first h 0) ≡ false = ne_eqb s (first h 0) (not_first h s 0 (omega arith) at.later) in
    or_right (eqb s (first h 3) || eqb s (first h 4)) (not (eqb s (first h 0)) && any_below (λ i. tells h i s) page_places) (λ x. not (nil x) && some x)

module _ {young : ℕ → Bool} {h : Store} (k : StandOutside young h) where
  pub first-outside : (j : ℕ) → j < 5 → young (first h j) ≡ false
  first-outside j l = elim (cases_lt j 3) [
    | inl low ↦ k.firsts j low
    | inr high ↦ elim (cases_eq j 3) [
      | inl three ↦ ap (λ n. young (first h n)) three ∙ k.inner (first h 3) (internal_three h)
      | inr n ↦ let four : j ≡ 4 = omega arith in ap (λ n. young (first h n)) four ∙ k.inner (first h 4) (internal_four h)
    ]
  ]

  -- a young object is ordinary, and none of the first five
  pub young-later : (s : ℕ) → young s ≡ true → is_first h s ≡ false
  young-later s on = any_below-none (λ j. eqb (first h j) s) 5 (λ j l. ne_eqb (first h j) s (λ e. false≢true (sym (first-outside j l) ∙ ap young e ∙ on)))

  pub young-ordinary : (s : ℕ) → young s ≡ true → is_there (h.cell s) ≡ true → is_ordinary h s ≡ true
  young-ordinary s on there =
      let off : is_internal h s ≡ false = false_from_ne_true _ (λ e. false≢true (sym (k.inner s e) ∙ on)) in
      λ x. there x && not (off x)

-- the slots of the hidden roots name nothing in the space that is being left: nil, or pages
pub hidden_clear : {young : ℕ → Bool} {h : Store} → IsHeapStore h → StandOutside young h → (i : ℕ) → i < roots_slots → IsClear young (root_slot h i)
hidden_clear {young} {h} heap outer i l z = elim (cases_lt i page_places) [
  | inl low ↦ elim (place_cases (sound_loadable h heap.store.sound) i low) [
    | inl nil ↦ ap young (at (first h 0) (at-named (first h 0) (h.to (root_slot h i)) nil)) ∙ outer.firsts 0 (omega arith)
    | inr page ↦ let r = a_page h i page in ap young (at r.0 r.1.named) ∙ outer.inner r.0 (page_internal h i r.0 low r.1)
  ]
  | inr high ↦
      let top = heap.store.sound.roots.tops i high l in
      let d : 8 * first h 0 / 8 ≡ first h 0 = omega arith in
      ap (λ w. young (w / 8)) top ∙ ap young d ∙ outer.firsts 0 (omega arith)
]
  where
    at : (s : ℕ) → h.to (root_slot h i) ≡ Some s → root_slot h i / 8 ≡ s
    at s e = same_Some (root_slot h i / 8) s (sym (heap.to (root_slot h i) ∙ ap (λ b. cond b (Some (root_slot h i / 8)) None) (eq-eqb (root_slot h i % 8) 0 z)) ∙ e)

-- chains that start outside stay outside, where no forwarder outside leads in
pub stays-outside : (young : ℕ → Bool) (h : Store) → ((s t : ℕ) → young s ≡ false → h.cell s ≡ Moved t → young t ≡ false) → (s : ℕ) → young s ≡ false → young (final h s) ≡ false
unfolding final follow
stays-outside young h moved s out = go h.names s out
  where
    step : (s : ℕ) → young s ≡ false → (y : Cell) → h.cell s ≡ y → young (hop (moves h) (forwards h) s) ≡ false
    step s out Empty k = rw k out
    step s out (There b) k = rw k out
    step s out (Moved t) k = rw k (moved s t out k)

    go : (n s : ℕ) → young s ≡ false → young (follow (moves h) (forwards h) n s) ≡ false
    go zero s out = out
    go (suc n) s out = go n (hop (moves h) (forwards h) s) (step s out (h.cell s) refl)
