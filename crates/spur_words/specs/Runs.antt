use Rattle.std.specs.Prelude.{ℕ, ◌+◌, ◌<◌, ◌≢◌}

-- the run of `la` words from `a` on and the run of `lb` words from `b` on share no word
abbrev pub IsApart : ℕ → ℕ → ℕ → ℕ → Type 0
IsApart a la b lb = (i j : ℕ) → i < la → j < lb → a + i ≢ b + j
