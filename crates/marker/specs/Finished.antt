-- What the rounds of ephemerons do to a heap whose live objects are marked.
use Rattle.std.specs.Prelude.{ℕ, ◌≡◌, []}
use Rattle.spur_graph.specs.Graph.{Graph}
use Rattle.spur_graph.specs.Live.{Live, none}
use Rattle.spur_graph.specs.Rounds.{Decides, Rounds, swept, nils}
use Rattle.spur_graph.specs.Heaps.{View, heap_graph, heap_room, marked_graph}
use Rattle.spur_heap.specs.MarkBits.{marks}
use Rattle.marker.specs.Followed.{AreFollowed}
use Rattle.marker.specs.Marked.{AreInternalMarked}
use Rattle.marker.specs.Visits.{AreBare}

-- the internal objects are marked, no forwarder is, nothing that is marked and no root names one, and nothing stands on the stack
pub record IsMarkedThrough (v : View) : Type 0 where
  pub inner : AreInternalMarked v
  pub bare : AreBare v
  pub followed : AreFollowed v
  pub empty : v.stack ≡ []

-- exactly the live objects are marked, and the internal ones
pub record IsMarkedWhole (v : View) : Type 0 where
  pub exact : Decides (marks v) (Live (heap_graph v) none)
  pub through : IsMarkedThrough v

-- rounds were made until one found none, then what is live in the last graph is marked, and weak slots that named what is not are nil. What is not marked
-- may have any slots
pub record Finishes (old : View) (nilled fired : ℕ) (new : View) : Type 0 where
  pub mid : Graph
  pub rounds : Rounds none (heap_graph old) fired mid
  pub exact : Decides (marks new) (Live mid none)
  pub graph : marked_graph new ≡ swept (marks new) mid
  pub count : nilled ≡ nils (marks new) mid
  pub room : heap_room new ≡ heap_room old
  pub through : IsMarkedThrough new
  pub rest : new ≡ record old { words = new.words; special = new.special; handles = new.handles; mourners = new.mourners }
