-- Chains of forwarders, over a test of what has moved and a function to where.
use Rattle.std.specs.Prelude.{ℕ, suc, zero, Bool, if◌then◌else◌}

-- one step along a chain; an end stays where it is
abbrev pub hop : (ℕ → Bool) → (ℕ → ℕ) → ℕ → ℕ
hop moved target s = if moved s then target s else s

-- where a chain leads after so many steps
unfoldable pub follow : (ℕ → Bool) → (ℕ → ℕ) → ℕ → ℕ → ℕ
follow moved target zero s = s
follow moved target (suc n) s = follow moved target n (hop moved target s)

-- how many steps are left of a chain, at most `n`
unfoldable pub steps : (ℕ → Bool) → (ℕ → ℕ) → ℕ → ℕ → ℕ
steps moved target zero s = 0
steps moved target (suc n) s = if moved s then suc (steps moved target n (target s)) else 0
