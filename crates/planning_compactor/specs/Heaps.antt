-- What the compaction of a heap does to it.
use Rattle.std.specs.Prelude.{ℕ}
use Rattle.spur_graph.specs.Heaps.{View}
use Rattle.compaction_laws.specs.Compacting.{Compacts}
use Rattle.compaction_laws.specs.Outcomes.{IsSweptHeap, IsAllThatStands, HasRoomBehind}

-- each marked object goes to its place, and the heap stands for the graph of what was marked, in the room behind a full collection. Nothing else stands there
pub record IsCompactedHeap (old new : View) : Type 0 where
  pub goes : ℕ → ℕ
  pub compacts : Compacts goes old new
  pub swept : IsSweptHeap goes old new
  pub stands : IsAllThatStands goes old new
  pub room : HasRoomBehind old new swept.place
