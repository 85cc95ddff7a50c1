-- A heap before a scavenge.
use Rattle.std.specs.Prelude.{ℕ, ◌≡◌, ◌<◌, ◌≤◌, Bool, true, false}
use Rattle.std.specs.FinSet.{contains}
use Rattle.spur_graph.specs.Cells.{is_start, final}
use Rattle.spur_graph.specs.Ordinary.{is_ordinary}
use Rattle.spur_graph.specs.Heaps.{View, store_of, heap_room}

-- the name is one that old space has or reaches
abbrev pub is_old_name : View → ℕ → Bool
is_old_name v a = contains (heap_room v).old_names a

-- the test tells new space from old space, and holds of no place of old space
pub record IsNewSpace (young : ℕ → Bool) (v : View) : Type 0 where
  pub old : (s : ℕ) → s < v.spaces.old_end → young s ≡ false
  pub new : (s : ℕ) → is_start ((store_of v).cell s) ≡ true → v.spaces.old_end ≤ s → young s ≡ true

-- whatever old space has or reaches is an old name
abbrev pub LeadToOldNames : View → Type 0
LeadToOldNames v = (s : ℕ) → s < v.spaces.old_end → is_start ((store_of v).cell s) ≡ true → is_ordinary (store_of v) (final (store_of v) s) ≡ true → is_old_name v (final (store_of v) s) ≡ true
