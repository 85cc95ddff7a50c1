-- Pinned objects.
use Rattle.std.specs.Prelude.{ℕ, Bool, ◌&&◌, List}
use Rattle.compaction_laws.specs.Compacting.{is_pinned}

-- a pinned object starts there
abbrev pub is_pin : (ℕ → Bool) → List ℕ → ℕ → Bool
is_pin has words s = has s && is_pinned words s
