use Rattle.std.proofs.Common.{◌≡◌, sym, subst}
use Rattle.spur_graph.specs.Heaps.{View}
use Rattle.spur_heap.specs.Parts.{view_of}
use Rattle.compaction_laws.specs.Compacting.{IsTight}
use Rattle.compaction_laws.proofs.Rooms.{compacted_has_room}
use Rattle.compaction_laws.proofs.Swept.{compacted_is_swept}
use Rattle.compaction_laws.proofs.Wholes.{compacted_stands}
use Rattle.planning_compactor.specs.Heaps.{IsCompactedHeap}
use Rattle.planning_compactor.proofs.heap.compact.Goals as goal

pub returns : goal.returns
returns c =
    let v : View = view_of c.heap.inside.parts in
    let v' : View = view_of c.compact_spaces.new.parts in
    let is : v ≡ c.args.heap.now = c.heap.view_is in
    let e = c.compact_spaces.ensures.compacts in
    let k = c.heap.invariant.whole in
    let t : IsTight v = subst IsTight (sym is) c.requires.tight in
    let swept = compacted_is_swept e.0 v v' k t e.1 in
    subst (λ u. IsCompactedHeap u v') is (record {
      goes = e.0;
      compacts = e.1;
      swept = swept;
      stands = compacted_stands e.0 v v' k t e.1;
      room = compacted_has_room e.0 v v' k t e.1 swept;
    })
