-- Full collections are alike in states that differ in names alone.
use Rattle.std.proofs.Common.{◌≡◌, ℕ, Bool, refl, sym, subst}
use Rattle.spur_graph.specs.declared.answer.Answer.{Answer}
use Rattle.spur_graph.specs.Graph.{Graph}
use Rattle.spur_graph.specs.Names.{Iso}
use Rattle.spur_graph.specs.Room.{Room}
use Rattle.spur_graph.specs.Live.{none}
use Rattle.spur_graph.specs.Rounds.{Collect}
use Rattle.spur_graph.specs.Collections.{Collects}
use Rattle.spur_graph.specs.State.{State}
use Rattle.spur_graph.specs.Step.{SameRoom, Renamed}
use Rattle.graph_laws.proofs.Named.{IsNamed}
use Rattle.graph_laws.proofs.Turning.{turned, turned_room}
use Rattle.graph_laws.proofs.Sweeping.{collect-renamed}
use Rattle.graph_laws.proofs.CollectedRooms.{room_collected-renamed}
use Rattle.graph_laws.proofs.CollectedNames.{TellsOf, collect-fresh, collect-named, room-tells}

-- where collections of states that differ in names alone leave graphs and rooms that do so, they leave such states
module _ {s t : State} (named : IsNamed s) (k : Renamed s t) (f F : ℕ → Bool) (nilled fired : ℕ) (new : State) (collect : Collect t.graph f nilled fired new.graph) where
  pub left-alike : new ≡ record t { graph = new.graph; room = new.room } → (graph : Graph) → Collect s.graph F nilled fired graph → Iso new.graph graph k.back k.p
      → (room : Room) → SameRoom new.room room k.back → TellsOf graph room
      → Renamed (record s { graph = graph; room = room }) new × IsNamed (record s { graph = graph; room = room })
  left-alike rest graph also iso room same tells = (
    subst (Renamed (record s { graph = graph; room = room })) (sym rest) (record {
      p = k.p;
      back = k.back;
      graph = turned iso;
      room = turned_room k.graph.left same;
      files = k.files;
      script = k.script;
      next = collect-fresh t.graph f nilled fired new.graph collect k.next;
    }),
    collect-named named F nilled fired graph also room tells,
  )

pub collects-alike : {s t : State} → IsNamed s → Renamed s t → (answer : Answer) (new : State) → Collects t answer new → (end : State) × Collects s answer end × Renamed end new × IsNamed end
collects-alike {s} {t} named k answer new c =
    let collect = collect-renamed (turned k.graph) none none (λ a. refl) c.nilled c.fired new.graph c.collect in
    let room = room_collected-renamed collect.2 (turned_room k.graph.right k.room) new.room c.room in
    let left = left-alike named k none none c.nilled c.fired new c.collect c.rest collect.0 collect.1 collect.2 room.0 room.2 (room-tells s.room collect.0 room.0 room.1) in (
      record s { graph = collect.0; room = room.0 },
      record { nilled = c.nilled; fired = c.fired; counts = c.counts; collect = collect.1; room = room.1; rest = refl },
      left.0,
      left.1,
    )
