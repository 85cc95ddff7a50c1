-- Looking up in tables that are made of lists of numbers.
use Rattle.std.proofs.Common.{◌≡◌, inl, inr, ◌<◌, ℕ, Bool, cond, List, [], ◌∷◌, map, refl, sym, ap, ◌∙◌, arith, Some, None}
use Rattle.std.proofs.lemmas.Bool.{false≢true, cases_Bool, cases_eq, false_from_ne_true}
use Rattle.std.specs.List.{filter, range_with_len}
use Rattle.std.specs.Ordering.{nat_cmp}
use Rattle.std.specs.FinMap.{find}
use Rattle.heap_cells.proofs.Finding.{same_key, key_same}
use Rattle.heap_cells.proofs.Members.{In, in_filter, filter_in, in_range}

module _ {X : Type 0} (f : ℕ → X) where
  -- a key of the list has its value
  pub find-listed : (ss : List ℕ) (a : ℕ) → In ss a → find nat_cmp a (map (λ s. (s, f s)) ss) ≡ Some (f a)
  find-listed [] a k = absurd k
  find-listed (s ∷ ss) a k = elim (cases_eq a s) [
    | inl e ↦ ap (λ b. cond b (Some (f s)) (find nat_cmp a (map (λ t. (t, f t)) ss))) (same_key a s e) ∙ ap (λ t. Some (f t)) (sym e)
    | inr n ↦
        ap (λ b. cond b (Some (f s)) (find nat_cmp a (map (λ t. (t, f t)) ss))) (false_from_ne_true _ (λ t. n (key_same a s t)))
        ∙ find-listed ss a (elim k [ inl e ↦ absurd (n (sym e)) | inr m ↦ m ])
  ]

  -- a key of no place of the list has none
  pub find-absent : (ss : List ℕ) (a : ℕ) → (In ss a → ⊥) → find nat_cmp a (map (λ s. (s, f s)) ss) ≡ None
  find-absent [] a none = refl
  find-absent (s ∷ ss) a none =
      ap (λ b. cond b (Some (f s)) (find nat_cmp a (map (λ t. (t, f t)) ss))) (false_from_ne_true _ (λ t. none (inl (sym (key_same a s t)))))
      ∙ find-absent ss a (λ m. none (inr m))

-- a table over the numbers below `n` at which a test holds
pub find-range : {X : Type 0} (p : ℕ → Bool) (f : ℕ → X) (n i : ℕ) → i < n → find nat_cmp i (map (λ j. (j, f j)) (filter p (range_with_len 0 n))) ≡ cond (p i) (Some (f i)) None
find-range p f n i low = elim (cases_Bool (p i)) [
  | inl on ↦ find-listed f (filter p (range_with_len 0 n)) i (in_filter p (range_with_len 0 n) i (in_range 0 n i (omega arith) (omega (arith, low))) on) ∙ sym (ap (λ b. cond b (Some (f i)) None) on)
  | inr off ↦ find-absent f (filter p (range_with_len 0 n)) i (λ m. false≢true (sym off ∙ (filter_in p (range_with_len 0 n) i m).1)) ∙ sym (ap (λ b. cond b (Some (f i)) None) off)
]
