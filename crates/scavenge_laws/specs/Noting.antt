-- The remembered set behind a scavenge: what stands in old space and names the new space that was filled.
use Rattle.std.specs.Prelude.{ℕ, ◌≡◌, ◌≢◌, ◌⊎◌, ◌<◌, true}
use Rattle.spur_graph.specs.Cells.{Store, first}
use Rattle.spur_graph.specs.Heaps.{names_over}

-- whatever stands in old space, which ends at `end`, and names something behind it is noted or will be looked at
pub record Noting (end : ℕ) (h : Store) (todo noted : ℕ → Type 0) : Type 0 where
  pub all : (s : ℕ) → s < end → s ≢ first h 3 → names_over end (h.cell s) ≡ true → todo s ⊎ noted s
