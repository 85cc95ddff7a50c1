-- A store and the same with another object in the place of one, where each entry of the class table leads where it led: no entry is bad.
use Rattle.std.proofs.Common.{◌≡◌, ℕ, true, false, ◌⊎◌, Bool, not, ◌&&◌, ◌||◌, eqb, sym, ap, ◌∙◌, inl, inr, Option, Some, None}
use Rattle.std.proofs.lemmas.Bool.{cases_Bool, eq-eqb, and_left, and_right, or_left, or_cases, and_parts, not-false, not_from_true}
use Rattle.spur_graph.specs.Cells.{Body, Store, first, lead}
use Rattle.spur_graph.specs.Ordinary.{is_at, passes, body_at, has_page, entry, has_entry, is_no_index, is_entered, is_bad_entry}
use Rattle.spur_graph.specs.CellGraph.{has_class}
use Rattle.heap_cells.proofs.Below.{and-same}
use Rattle.spur_heap.proofs.InPlace.{changed}
use Rattle.spur_heap.proofs.Swap.{Swap, ordinary-same, has_page-same}

module _ {old : Store} {s : ℕ} {b : Body} {b' : Body} (k : Swap old s b b')
    (leads : (i : ℕ) → has_page old i ≡ true → lead (changed old s b') (entry (changed old s b') i) ≡ lead old (entry old i))
    (hash : (t : ℕ) → is_entered old t ≡ true → (t ≡ first old 0) ⊎ ((body_at (changed old s b') t).hash ≡ (body_at old t).hash)) where
  has_entry-same : (i t : ℕ) → has_entry (changed old s b') i t ≡ has_entry old i t
  has_entry-same i t = and-same (has_page (changed old s b') i) (has_page old i) (is_at t (lead (changed old s b') (entry (changed old s b') i))) (is_at t (lead old (entry old i))) (has_page-same k i) (λ e. ap (is_at t) (leads i e))

  -- with the same hash it is entered as before
  entered-by : (t : ℕ) → (body_at (changed old s b') t).hash ≡ (body_at old t).hash → is_entered (changed old s b') t ≡ is_entered old t
  unfolding is_entered
  entered-by t same =
      let has : has_entry (changed old s b') (body_at (changed old s b') t).hash t ≡ has_entry old (body_at old t).hash t = ap (λ n. has_entry (changed old s b') n t) same ∙ has_entry-same (body_at old t).hash t in
      λ x. ordinary-same k t x && not (is_no_index (same x)) && has x

  -- what an entry of the old store leads to is nil, or entered as before
  entry_test : ℕ → Store → ℕ → Bool
  entry_test i h t = eqb t (first old 0) || (not (eqb i 0) && is_entered h t)

  entry_kept : (i t : ℕ) → entry_test i old t ≡ true → entry_test i (changed old s b') t ≡ true
  unfolding entry_test
  entry_kept i t on = elim (or_cases (eqb t (first old 0)) (not (eqb i 0) && is_entered old t) on) [
    | inl nil ↦ or_left _ _ nil
    | inr entered ↦ elim (hash t (and_parts (not (eqb i 0)) (is_entered old t) entered).1) [
      | inl nil ↦ or_left _ _ (eq-eqb t (first old 0) nil)
      | inr same ↦ ap (λ b. eqb t (first old 0) || (not (eqb i 0) && b)) (entered-by t same) ∙ on
    ]
  ]

  entry_passes : (i : ℕ) (o : Option ℕ) → passes (entry_test i old) o ≡ true → passes (entry_test i (changed old s b')) o ≡ true
  entry_passes i None on = on
  entry_passes i (Some t) on = entry_kept i t on

  pub good_entry : ((i : ℕ) → is_bad_entry old i ≡ false) → (i : ℕ) → is_bad_entry (changed old s b') i ≡ false
  unfolding entry_test
  good_entry good i = elim (cases_Bool (has_page old i)) [
    | inr off ↦ and_left _ _ (has_page-same k i ∙ off)
    | inl on ↦
        let passed : passes (entry_test i old) (lead old (entry old i)) ≡ true = not-false _ (sym (ap (λ b. b && not (passes (entry_test i old) (lead old (entry old i)))) on) ∙ good i) in
        and_right _ _ (not_from_true _ (ap (passes (entry_test i (changed old s b'))) (leads i on) ∙ entry_passes i (lead old (entry old i)) passed))
  ]

  pub has_class-same : (i : ℕ) → has_class (changed old s b') i ≡ has_class old i
  has_class-same i = and-same (has_page (changed old s b') i) (has_page old i) (not (is_at (first old 0) (lead (changed old s b') (entry (changed old s b') i)))) (not (is_at (first old 0) (lead old (entry old i)))) (has_page-same k i)
      (λ e x. not (is_at (first old 0) (leads i e x)))
