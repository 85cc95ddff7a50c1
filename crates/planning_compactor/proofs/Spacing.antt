-- Gaps of no word, or of enough words for a chunk.
use Rattle.std.proofs.Common.{◌≡◌, ℕ, true, ◌+◌, ◌-◌, ◌≤◌, inl, inr, arith}
use Rattle.std.proofs.lemmas.Bool.{cases_eq, cases_lt}
use Rattle.std.proofs.lemmas.Bool.Decides.{nat_tests}
use Rattle.spur_graph.specs.FreeSizes.{fits}
use Rattle.planning_compactor.specs.Spans.{Gap}

pub gap-same : (a : ℕ) → Gap a a
gap-same a = (omega arith, λ e. omega (arith, e))

pub gap-then : (a b c : ℕ) → Gap a b → Gap b c → Gap a c
gap-then a b c g h = (
  omega (arith, g.0, h.0),
  λ e. elim (cases_lt 1 (b - a)) [
    | inl k ↦ omega (arith, g.0, h.0, e, k)
    | inr k ↦ elim (cases_eq (b - a) 1) [ inl j ↦ g.1 j | inr j ↦ h.1 (omega (arith, g.0, h.0, e, k, j)) ]
  ],
)

pub gap-more : (a n : ℕ) → 2 ≤ n → Gap a (a + n)
gap-more a n h = (omega arith, λ e. omega (arith, e, h))

pub gap-both : (a b n : ℕ) → Gap a b → Gap (a + n) (b + n)
gap-both a b n g = (omega (arith, g.0), λ e. g.1 (omega (arith, e)))

-- a gap that takes so many words has a gap behind them
pub gap-fits : (f a n : ℕ) → f ≤ a → fits n (a - f) ≡ true → Gap (f + n) a
gap-fits f a n l e = (grind (arith, nat_tests), λ k. grind (arith, nat_tests))
