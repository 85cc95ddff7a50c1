-- Contents that change places, and contents that are copied.
use Rattle.std.specs.Prelude.{ℕ, ◌≡◌, ◌≢◌, length, true, false}
use Rattle.spur_graph.specs.Become.{stays_in_place}
use Rattle.spur_graph.specs.Instances.{has_entered}
use Rattle.spur_graph.specs.Refusals.{waits}
use Rattle.spur_graph.specs.Heaps.{View, heap_graph, heap_room}
use Rattle.spur_heap.specs.Words.{body_in}
use Rattle.spur_heap.specs.Views.{node_in}

-- two objects can change contents: each fits the other's place, and neither is pinned or waits among the mourners
pub record CanExchange (v : View) (a b : ℕ) : Type 0 where
  pub apart : a ≢ b
  pub alike : stays_in_place (heap_room v) a b ≡ true
  pub mobile : ((node_in v a).pinned ≡ false) × ((node_in v b).pinned ≡ false)
  pub awake : (waits (heap_graph v) a ≡ false) × (waits (heap_graph v) b ≡ false)

-- an object can take the contents of another: it has as many slots, and is no entered class and no mourner
pub record CanTake (v : View) (from to : ℕ) : Type 0 where
  pub apart : from ≢ to
  pub slots : length (body_in v from).words ≡ length (body_in v to).words
  pub mobile : (node_in v from).pinned ≡ false
  pub unentered : has_entered (heap_graph v) to ≡ false
  pub awake : waits (heap_graph v) to ≡ false
