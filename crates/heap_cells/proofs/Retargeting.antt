-- Chains in which an end is made to pass to another end: what led to the first leads to the second.
use Rattle.std.proofs.Common.{◌≡◌, ◌≢◌, ℕ, suc, zero, Bool, true, false, cond, ◌<◌, refl, sym, ap, ◌∙◌, inl, inr, arith}
use Rattle.std.proofs.lemmas.Bool.{cases_eq, ne_eqb, eq-eqb}
use Rattle.spur_graph.specs.Become.{instead}
use Rattle.spur_graph.specs.Chains.{hop, follow}
use Rattle.heap_cells.proofs.Chains.{follow-end, follow-none}
use Rattle.heap_cells.proofs.Enough.{enough}

-- one step, and the rest
follow-suc : (m : ℕ → Bool) (g : ℕ → ℕ) (n s : ℕ) → follow m g (suc n) s ≡ follow m g n (hop m g s)
unfolding follow
follow-suc m g n s = refl

-- where `a` passes to `b`, and every other name to where it passed
pub record Retargets (m n : ℕ → Bool) (g f : ℕ → ℕ) (a b : ℕ) : Type 0 where
  pub on : n a ≡ true
  pub at : f a ≡ b
  pub tests : (t : ℕ) → t ≢ a → n t ≡ m t
  pub targets : (t : ℕ) → t ≢ a → f t ≡ g t
  pub from : m a ≡ false
  pub to : m b ≡ false
  pub apart : a ≢ b

pub instead-here : (a b t : ℕ) → t ≡ a → instead a b t ≡ b
instead-here a b t e = ap (λ x. cond x b t) (eq-eqb t a e)

pub instead-other : (a b t : ℕ) → t ≢ a → instead a b t ≡ t
instead-other a b t n = ap (λ x. cond x b t) (ne_eqb t a n)

module _ {m n : ℕ → Bool} {g f : ℕ → ℕ} {a b : ℕ} (k : Retargets m n g f a b) where
  still_end : n b ≡ false
  still_end = k.tests b (λ e. k.apart (sym e)) ∙ k.to

  hop-here : (s : ℕ) → s ≡ a → hop n f s ≡ b
  hop-here s e = ap (hop n f) e ∙ ap (λ x. cond x (f a) a) k.on ∙ k.at

  hop-other : (s : ℕ) → s ≢ a → hop n f s ≡ hop m g s
  hop-other s o = λ i. cond (k.tests s o i) (k.targets s o i) s

  stopped : (j s : ℕ) → s ≡ a → follow n f (suc j) s ≡ instead a b (follow m g j s)
  stopped j s same =
      let stop : follow m g j s ≡ a = ap (follow m g j) same ∙ follow-end m g j a k.from in
      follow-suc n f j s ∙ ap (follow n f j) (hop-here s same) ∙ follow-end n f j b still_end ∙ sym (instead-here a b (follow m g j s) stop)

  follow-redirect : (j s : ℕ) → m (follow m g j s) ≡ false → follow n f (suc j) s ≡ instead a b (follow m g j s)
  follow-redirect zero s e = elim (cases_eq s a) [
    | inl same ↦ stopped zero s same
    | inr other ↦
        let off : m s ≡ false = sym (ap m (follow-none m g s)) ∙ e in
        follow-end n f 1 s (k.tests s other ∙ off) ∙ sym (instead-other a b s other) ∙ ap (instead a b) (sym (follow-none m g s))
  ]
  follow-redirect (suc j) s e = elim (cases_eq s a) [
    | inl same ↦ stopped (suc j) s same
    | inr other ↦
        follow-suc n f (suc j) s ∙ ap (follow n f (suc j)) (hop-other s other)
        ∙ follow-redirect j (hop m g s) (sym (ap m (follow-suc m g j s)) ∙ e) ∙ ap (instead a b) (sym (follow-suc m g j s))
  ]

  -- where it ends then is an end
  pub still_an_end : (t : ℕ) → m t ≡ false → n (instead a b t) ≡ false
  still_an_end t e = elim (cases_eq t a) [
    | inl same ↦ ap n (instead-here a b t same) ∙ still_end
    | inr other ↦ ap n (instead-other a b t other) ∙ k.tests t other ∙ e
  ]

  -- with as many steps as there are names, before and afterwards
  pub redirected : (names s : ℕ) → ((t : ℕ) → m t ≡ true → t < names) → a < names → m (follow m g names s) ≡ false → follow n f names s ≡ instead a b (follow m g names s)
  redirected names s within l e =
      let there = follow-redirect names s e in
      (enough n f names (suc names) s inside (ap n there ∙ still_an_end (follow m g names s) e)).1 ∙ there
    where
      inside : (t : ℕ) → n t ≡ true → t < names
      inside t h = elim (cases_eq t a) [
        | inl same ↦ omega (arith, same, l)
        | inr other ↦ within t (sym (k.tests t other) ∙ h)
      ]
