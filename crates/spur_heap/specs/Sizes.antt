-- The sizes that units have.
use Rattle.std.specs.Prelude.{ℕ, ◌≡◌, ◌⊎◌}

-- a unit is of 1, 2, 4 or 8 bytes
unfoldable pub IsSize : ℕ → Type 0
IsSize u = (u ≡ 1) ⊎ ((u ≡ 2) ⊎ ((u ≡ 4) ⊎ (u ≡ 8)))
