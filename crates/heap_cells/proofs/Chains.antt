-- Chains, over any test of what has moved, and those of a store.
use Rattle.std.proofs.Common.{◌≡◌, ℕ, suc, zero, Bool, true, false, cond, not, ◌&&◌, ◌+◌, ◌-◌, ◌≤◌, refl, sym, ap, ◌∙◌, arith, zero-add}
use Rattle.std.proofs.lemmas.Bool.{not-false}
use Rattle.spur_graph.specs.Chains.{hop, follow}
use Rattle.spur_graph.specs.Cells.{Store, is_moved, is_there, target_of, final}
use Rattle.spur_graph.specs.Ordinary.{is_bad_forwarder}
use Rattle.heap_cells.proofs.CellKinds.{there_is_not_moved}

module _ (moved : ℕ → Bool) (target : ℕ → ℕ) where
  -- an end stays
  pub follow-end : (n s : ℕ) → moved s ≡ false → follow moved target n s ≡ s
  unfolding follow
  follow-end zero s e = refl
  follow-end (suc n) s e = ap (follow moved target n) (ap (λ b. cond b (target s) s) e) ∙ follow-end n s e

  -- one step, and the rest
  pub follow-step : (n s : ℕ) → moved s ≡ true → follow moved target (suc n) s ≡ follow moved target n (target s)
  unfolding follow
  follow-step n s e = ap (follow moved target n) (ap (λ b. cond b (target s) s) e)

  pub follow-none : (s : ℕ) → follow moved target 0 s ≡ s
  unfolding follow
  follow-none s = refl

  pub follow-add : (m n s : ℕ) → follow moved target (m + n) s ≡ follow moved target n (follow moved target m s)
  unfolding follow
  follow-add zero n s = rw zero-add refl
  follow-add (suc m) n s = let e : suc m + n ≡ suc (m + n) = omega arith in rw e (follow-add m n (hop moved target s))

  -- more steps than enough lead to the same end
  pub follow-more : (m n s : ℕ) → m ≤ n → moved (follow moved target m s) ≡ false → follow moved target n s ≡ follow moved target m s
  follow-more m n s l e = let k : n ≡ m + (n - m) = omega arith in rw k (follow-add m (n - m) s ∙ follow-end (n - m) (follow moved target m s) e)

-- chains whose steps are the same are the same
pub follow-same : (m m' : ℕ → Bool) (g g' : ℕ → ℕ) → ((t : ℕ) → m t ≡ m' t) → ((t : ℕ) → g t ≡ g' t) → (n s : ℕ) → follow m g n s ≡ follow m' g' n s
unfolding follow
follow-same m m' g g' e k zero s = refl
follow-same m m' g g' e k (suc n) s = follow-same m m' g g' e k n (hop m g s) ∙ ap (follow m' g' n) (λ i. cond (e s i) (k s i) s)

-- where forwarders of a store stand, and the starts that they name
abbrev pub moves : Store → ℕ → Bool
moves h s = is_moved (h.cell s)

abbrev pub forwards : Store → ℕ → ℕ
forwards h s = target_of (h.cell s)

-- a forwarder that is not bad leads to an object
pub good_forwarder_ends : (h : Store) (s : ℕ) → is_bad_forwarder h s ≡ false → is_moved (h.cell s) ≡ true → is_there (h.cell (final h s)) ≡ true
good_forwarder_ends h s good on = not-false _ (sym (ap (λ b. b && not (is_there (h.cell (final h s)))) on) ∙ good)

-- what is no forwarder leads to itself
pub final-end : (h : Store) (s : ℕ) → is_moved (h.cell s) ≡ false → final h s ≡ s
unfolding final
final-end h s e = follow-end (moves h) (forwards h) h.names s e

pub final-there : (h : Store) (s : ℕ) → is_there (h.cell s) ≡ true → final h s ≡ s
final-there h s e = final-end h s (there_is_not_moved (h.cell s) e)
