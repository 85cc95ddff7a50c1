-- Objects that move down, one after the other.
use Rattle.std.specs.Prelude.{ℕ, ◌≡◌, ◌+◌, ◌-◌, ◌/◌, ◌<◌, ◌≤◌, ◌⊎◌, List, length, slice_index}
use Rattle.object_header.specs.Chunks.{StandsAt}
use Rattle.heap_walk.specs.declared.saved.Saved.{Saved}
use Rattle.planning_compactor.specs.Entries.{entry, start_of}
use Rattle.heap_walk.specs.Shapes.{lead_at, place_at, words_at}

-- where the object of entry `k` goes: its start, and its place
abbrev pub target_of : List Saved → ℕ → ℕ
target_of es k = (entry es k).first / 8

abbrev pub to_at : List Saved → List ℕ → ℕ → ℕ
to_at es words k = target_of es k - lead_at words (start_of es k)

-- where it comes from, and how many words it has
abbrev pub from_at : List Saved → List ℕ → ℕ → ℕ
from_at es words k = place_at words (start_of es k)

abbrev pub long_at : List Saved → List ℕ → ℕ → ℕ
long_at es words k = words_at words (start_of es k)

-- each object goes down or stays, behind where the one before it goes
pub record CanSlide (es : List Saved) (words : List ℕ) : Type 0 where
  pub stands : (k : ℕ) → k < length es → StandsAt words (start_of es k)
  pub room : (k : ℕ) → k < length es → lead_at words (start_of es k) ≤ target_of es k
  pub down : (k : ℕ) → k < length es → target_of es k ≤ start_of es k
  pub order : (j k : ℕ) → j < k → k < length es → to_at es words j + long_at es words j ≤ to_at es words k

-- the first `n` objects have gone, and no other word has changed
pub record Slid (es : List Saved) (before words : List ℕ) (n : ℕ) : Type 0 where
  pub same_words : length words ≡ length before
  pub moved : (k i : ℕ) → k < n → i < long_at es before k → slice_index words (to_at es before k + i) ≡ slice_index before (from_at es before k + i)
  pub others : (j : ℕ) → ((k : ℕ) → k < n → (j < to_at es before k) ⊎ (to_at es before k + long_at es before k ≤ j)) → slice_index words j ≡ slice_index before j
