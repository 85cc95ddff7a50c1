-- A chain that ends does so within as many steps as there are names that may have moved.
use Rattle.std.proofs.Common.{◌≡◌, ℕ, suc, zero, Bool, true, false, ◌+◌, ◌-◌, ◌<◌, ◌≤◌, List, [], ◌∷◌, length, get_or, refl, sym, ap, ◌∙◌, eqb, inl, inr, arith}
use Rattle.std.proofs.lemmas.Bool.{false≢true, cases_Bool, ne_eqb, eqb-true}
use Rattle.std.specs.List.{IsDistinct, list_any, Contains}
use Rattle.std.proofs.lemmas.Map.Keys.{IsDistinct-from_apart}
use Rattle.std.proofs.lemmas.Map.Steps.{length-le_from_distinct_below}
use Rattle.std.proofs.lemmas.Map.Views.{Contains-from_any}
use Rattle.spur_graph.specs.Chains.{hop, follow}
use Rattle.heap_cells.proofs.Chains.{follow-add, follow-more}

module _ (moved : ℕ → Bool) (target : ℕ → ℕ) where
  -- the names that a chain passes in so many steps
  abbrev trail : ℕ → ℕ → List ℕ
  trail zero s = []
  trail (suc n) s = s ∷ trail n (hop moved target s)

  length-trail : (n s : ℕ) → length (trail n s) ≡ n
  length-trail zero s = refl
  length-trail (suc n) s = ap suc (length-trail n (hop moved target s))

  trail-at : (n s i d : ℕ) → i < n → get_or (trail n s) i d ≡ follow moved target i s
  unfolding follow
  trail-at zero s i d l = absurd (omega arith)
  trail-at (suc n) s zero d l = refl
  trail-at (suc n) s (suc i) d l = trail-at n (hop moved target s) i d (omega arith)

  -- where a chain ends after k steps and not before, it passes each name once
  apart_at : (k s i j n : ℕ) → ((h : ℕ) → h < k → moved (follow moved target h s) ≡ true) → moved (follow moved target k s) ≡ false → k ≡ j + n → i + n < k → follow moved target i s ≡ follow moved target j s → ⊥
  apart_at k s i j n before e late early same =
      let a : follow moved target k s ≡ follow moved target n (follow moved target j s) = rw late (follow-add moved target j n s) in
      let b : follow moved target (i + n) s ≡ follow moved target n (follow moved target i s) = follow-add moved target i n s in
      false≢true (sym e ∙ ap moved (a ∙ ap (follow moved target n) (sym same) ∙ sym b) ∙ before (i + n) early)

  -- so it has no more steps than there are names that may have moved
  few : (names k s : ℕ) → ((t : ℕ) → moved t ≡ true → t < names) → ((h : ℕ) → h < k → moved (follow moved target h s) ≡ true) → moved (follow moved target k s) ≡ false → k ≤ names
  few names k s within before e =
      let at : (i d : ℕ) → i < k → get_or (trail k s) i d ≡ follow moved target i s = λ i d l. trail-at k s i d l in
      let distinct : IsDistinct eqb (trail k s) = IsDistinct-from_apart eqb (trail k s) (λ i j d l m.
      let n : j < k = omega (arith, length-trail k s) in
      ne_eqb _ _ (λ same. apart_at k s i j (k - j) before e (omega arith) (omega arith) (sym (at i d (omega arith)) ∙ same ∙ at j d n))) in
      let below : (q : ℕ) → list_any (eqb q) (trail k s) ≡ true → q < names = λ q h. inside q (Contains-from_any {eq = eqb} eqb-true q (trail k s) h) in
      let h : length (trail k s) ≤ names = length-le_from_distinct_below (trail k s) names distinct below in
      omega (arith, length-trail k s)
    where
      inside : (q : ℕ) → Contains (trail k s) q → q < names
      inside q c = within q (ap moved (sym (sym (trail-at k s c.0 q (omega (arith, c.1, length-trail k s))) ∙ c.2)) ∙ before c.0 (omega (arith, c.1, length-trail k s)))

  -- the first step at which a chain ends
  first_end : (k s : ℕ) → moved (follow moved target k s) ≡ false → (j : ℕ) × (j ≤ k) × (moved (follow moved target j s) ≡ false) × ((h : ℕ) → h < j → moved (follow moved target h s) ≡ true)
  unfolding follow
  first_end zero s e = (0, omega arith, e, λ h l. absurd (omega arith))
  first_end (suc k) s e = elim (cases_Bool (moved s)) [
    | inl on ↦ let r = first_end k (hop moved target s) e in (suc r.0, omega (arith, r.1), r.2, later on r.3)
    | inr off ↦ (0, omega arith, off, λ h l. absurd (omega arith))
  ]
    where
      later : {j : ℕ} → moved s ≡ true → ((h : ℕ) → h < j → moved (follow moved target h (hop moved target s)) ≡ true) → (h : ℕ) → h < suc j → moved (follow moved target h s) ≡ true
      later on f zero l = on
      later on f (suc h) l = f h (omega arith)

  -- if a chain ends at all, it ends within as many steps as there are names that may have moved
  pub enough : (names k s : ℕ) → ((t : ℕ) → moved t ≡ true → t < names) → moved (follow moved target k s) ≡ false → (moved (follow moved target names s) ≡ false) × (follow moved target names s ≡ follow moved target k s)
  enough names k s within e =
      let r = first_end k s e in
      let same : follow moved target k s ≡ follow moved target r.0 s = follow-more moved target r.0 k s r.1 r.2 in
      let all : follow moved target names s ≡ follow moved target r.0 s = follow-more moved target r.0 names s (few names r.0 s within r.3 r.2) r.2 in
      (ap moved all ∙ r.2, all ∙ sym same)
