-- The graph of what is marked, once no round finds anything and weak slots are nil, is that of a collection, and closed.
use Rattle.std.proofs.Common.{◌≡◌, ℕ, []}
use Rattle.std.specs.Ordering.{nat_cmp}
use Rattle.std.specs.FinMap.{get-empty}
use Rattle.std.specs.FinSet.{contains-empty}
use Rattle.spur_graph.specs.Graph.{Graph, IsClosed}
use Rattle.spur_graph.specs.Live.{none}
use Rattle.spur_graph.specs.Room.{no_room}
use Rattle.spur_graph.specs.Rounds.{Collect}
use Rattle.spur_graph.specs.State.{State}
use Rattle.spur_graph.specs.Heaps.{View, heap_graph, marked_graph}
use Rattle.spur_heap.specs.MarkBits.{marks}
use Rattle.graph_laws.proofs.CollectedForms.{collect-forms}
use Rattle.graph_laws.proofs.CollectedNames.{TellsOf, collect-named}
use Rattle.graph_laws.proofs.Forms.{closed_by, forms_of}
use Rattle.graph_laws.proofs.Named.{all_named}
use Rattle.marker.specs.Finished.{Finishes}

-- a room tells of no name where it has none
tells_nothing : (g : Graph) → TellsOf g no_room
tells_nothing g = record { spots = λ a e. get-empty nat_cmp a; old_names = λ a e. contains-empty nat_cmp a }

-- a graph as a state of which nothing else is asked
abbrev state_of : Graph → State
state_of g = record { graph = g; room = no_room; files = λ name. []; script = [] }

pub collected_closed : (g : Graph) → IsClosed g → (nilled fired : ℕ) (new : Graph) → Collect g none nilled fired new → IsClosed new
collected_closed g closed nilled fired new c =
    let t = tells_nothing g in
    let named = all_named (state_of g) (record { closed = closed; spots = t.spots; old_names = t.old_names }) in
    closed_by (collect-named named none nilled fired new c no_room (tells_nothing new)) (collect-forms (forms_of closed) none nilled fired new c)

module _ (old new : View) (nilled fired : ℕ) (f : Finishes old nilled fired new) where
  pub collects : Collect (heap_graph old) none nilled fired (marked_graph new)
  collects = record { mid = f.mid; rounds = f.rounds; live = marks new; exact = f.exact; graph = f.graph; count = f.count }

  pub marked_closed : IsClosed (heap_graph old) → IsClosed (marked_graph new)
  marked_closed closed = collected_closed (heap_graph old) closed nilled fired (marked_graph new) collects
