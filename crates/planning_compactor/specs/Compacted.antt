-- What the compaction of a range does.
use Rattle.std.specs.Prelude.{ℕ, ◌≡◌, ◌<◌, ◌≤◌, ◌⊎◌, Bool, true, List, ◌++◌, slice_index}
use Rattle.std.specs.List.{AllByRecursion}
use Rattle.spur_graph.specs.Planned.{planned}
use Rattle.heap_walk.specs.Shapes.{place_at, end_at}
use Rattle.heap_laws.specs.Compaction.{MovedBy}
use Rattle.planning_compactor.specs.declared.parts.Part.{Part}
use Rattle.planning_compactor.specs.declared.parts.Parts.{Parts}
use Rattle.planning_compactor.specs.Spans.{Move, moves_in}
use Rattle.compaction_laws.specs.Compacting.{is_pinned}
use Rattle.planning_compactor.specs.Planning.{marks}
use Rattle.planning_compactor.specs.Objects.{KeepsLoose}

-- the moves of a range: where each object goes that is not pinned
abbrev pub moves_of : (ℕ → Bool) → List ℕ → ℕ → ℕ → List Move
moves_of has words low end = moves_in (marks has words low end) (planned low (marks has words low end))

-- `p` takes these objects to where they go
abbrev pub Agrees : (ℕ → ℕ) → List Move → Type 0
Agrees p ms = AllByRecursion (λ (e : Move). p e.start ≡ e.target) ms

-- each object of the range that is not pinned has gone to its planned place, and no other has moved
pub record IsCompactedWithin (p : ℕ → ℕ) (has has' : ℕ → Bool) (words words' : List ℕ) (low end : ℕ) : Type 0 where
  pub moved : MovedBy p has has' words words'
  pub loose : KeepsLoose has words words' low end
  pub placed : Agrees p (moves_of has words low end)
  pub pinned : (t : ℕ) → has t ≡ true → is_pinned words t ≡ true → p t ≡ t
  pub outside : (t : ℕ) → (t < low) ⊎ (end ≤ t) → p t ≡ t
  pub inside : (t : ℕ) → low ≤ t → t < end → (low ≤ p t) × (p t < end)

-- so far the moves `done` of all are made, and those of `left` are not: no object from `next` on has moved
pub record IsCompacting (all done left : List Move) (p : ℕ → ℕ) (has has' : ℕ → Bool) (words words' : List ℕ) (low end next : ℕ) : Type 0 where
  pub moved : MovedBy p has has' words words'
  pub loose : KeepsLoose has words words' low end
  pub is : all ≡ done ++ left
  pub placed : AllByRecursion (λ (e : Move). (p e.start ≡ e.target) × (e.target < next)) done
  pub pinned : (t : ℕ) → has t ≡ true → is_pinned words t ≡ true → p t ≡ t
  pub outside : (t : ℕ) → (t < low) ⊎ (end ≤ t) → p t ≡ t
  pub inside : (t : ℕ) → low ≤ t → t < end → (low ≤ p t) × (p t < end)
  pub unmoved : (t : ℕ) → next ≤ t → p t ≡ t

-- whatever is in the range stays in it
abbrev pub StaysIn : (ℕ → ℕ) → Part → Type 0
StaysIn p part = (t : ℕ) → part.low ≤ t → t < part.end → (part.low ≤ p t) × (p t < part.end)

-- in none of the ranges
abbrev pub IsOutside : Parts → ℕ → Type 0
IsOutside parts j = ((j < parts.old_space.low) ⊎ (parts.old_space.end ≤ j)) × ((j < parts.eden.low) ⊎ (parts.eden.end ≤ j)) × ((j < parts.past_space.low) ⊎ (parts.past_space.end ≤ j))

-- the ranges are compacted, each within itself: `p` takes each object of them that is not pinned to its planned place, and no other anywhere. Words of no
-- object, outside of the ranges, are as before
pub record AreCompacted (p : ℕ → ℕ) (has has' : ℕ → Bool) (words words' : List ℕ) (parts : Parts) : Type 0 where
  pub moved : MovedBy p has has' words words'
  pub old_space : Agrees p (moves_of has words parts.old_space.low parts.old_space.end)
  pub eden : Agrees p (moves_of has words parts.eden.low parts.eden.end)
  pub past_space : Agrees p (moves_of has words parts.past_space.low parts.past_space.end)
  pub in_old_space : StaysIn p parts.old_space
  pub in_eden : StaysIn p parts.eden
  pub in_past_space : StaysIn p parts.past_space
  pub pinned : (t : ℕ) → has t ≡ true → is_pinned words t ≡ true → p t ≡ t
  pub outside : (t : ℕ) → IsOutside parts t → p t ≡ t
  pub loose : (j : ℕ) → IsOutside parts j → ((s : ℕ) → has s ≡ true → (j < place_at words s) ⊎ (end_at words s ≤ j)) → slice_index words' j ≡ slice_index words j
