-- Scavenges are alike in states that differ in names alone.
use Rattle.std.proofs.Common.{refl}
use Rattle.std.specs.FinSet.{contains}
use Rattle.spur_graph.specs.declared.answer.Answer.{Answer}
use Rattle.spur_graph.specs.Scavenges.{Scavenges}
use Rattle.spur_graph.specs.State.{State}
use Rattle.spur_graph.specs.Step.{Renamed}
use Rattle.graph_laws.proofs.Named.{IsNamed}
use Rattle.graph_laws.proofs.Turning.{turned, turned_room}
use Rattle.graph_laws.proofs.Sweeping.{collect-renamed}
use Rattle.graph_laws.proofs.ScavengedRooms.{room_scavenged-renamed}
use Rattle.graph_laws.proofs.CollectedNames.{scavenged-tells}
use Rattle.graph_laws.proofs.Collecting.{left-alike}

pub scavenges-alike : {s t : State} → IsNamed s → Renamed s t → (answer : Answer) (new : State) → Scavenges t answer new → (end : State) × Scavenges s answer end × Renamed end new × IsNamed end
scavenges-alike {s} {t} named k answer new c =
    let here = turned_room k.graph.right k.room in
    let collect = collect-renamed (turned k.graph) (contains t.room.old_names) (contains s.room.old_names) here.old_names c.nilled c.fired new.graph c.collect in
    let room = room_scavenged-renamed collect.2 here new.room c.room in
    let left = left-alike named k (contains t.room.old_names) (contains s.room.old_names) c.nilled c.fired new c.collect c.rest
    collect.0 collect.1 collect.2 room.0 room.2 (scavenged-tells s.room collect.0 room.0 room.1) in (
      record s { graph = collect.0; room = room.0 },
      record { nilled = c.nilled; fired = c.fired; counts = c.counts; collect = collect.1; room = room.1; rest = refl },
      left.0,
      left.1,
    )
