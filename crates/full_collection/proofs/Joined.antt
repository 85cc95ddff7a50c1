-- A marking, its end, a compaction and the clearing of marks are a collection, which puts each object to its planned place.
use Rattle.std.proofs.Common.{◌≡◌, ℕ, sym, ap, ◌∙◌, subst}
use Rattle.std.proofs.lemmas.Bool.{and_parts}
use Rattle.spur_graph.specs.Live.{none}
use Rattle.spur_graph.specs.Names.{Iso}
use Rattle.spur_graph.specs.Rounds.{Collect, Rounds}
use Rattle.spur_graph.specs.Collections.{RoomCollected}
use Rattle.spur_graph.specs.Step.{SameRoom}
use Rattle.spur_graph.specs.Cells.{Store, is_start, is_there}
use Rattle.spur_graph.specs.Heaps.{IsWhole, View, Whole, heap_graph, heap_room, is_marked, marked_graph, store_of}
use Rattle.spur_heap.specs.MarkBits.{begun}
use Rattle.planning_compactor.specs.Heaps.{IsCompactedHeap}
use Rattle.marker.specs.Finished.{Finishes}
use Rattle.full_collection.specs.Collected.{ClearsMarks, CollectsHeap, GoesAsPlanned}
use Rattle.full_collection.proofs.Closed.{collects}

-- what stays of a heap
kept : (old through finished compacted new : View) → old.phase ≡ Whole → through ≡ record (begun old) { words = through.words; special = through.special; handles = through.handles; mourners = through.mourners }
    → finished ≡ record through { words = finished.words; special = finished.special; handles = finished.handles; mourners = finished.mourners }
    → compacted ≡ record finished { words = compacted.words; spaces = compacted.spaces; mourners = compacted.mourners; handles = compacted.handles; special = compacted.special }
    → new ≡ record compacted { words = new.words; phase = Whole }
    → new ≡ record old { words = new.words; spaces = new.spaces; mourners = new.mourners; handles = new.handles; special = new.special; stack = new.stack }
kept old through finished compacted new whole one two three four =
    let hash : new.hash ≡ old.hash = ap (λ (v : View). v.hash) four ∙ ap (λ (v : View). v.hash) three ∙ ap (λ (v : View). v.hash) two ∙ ap (λ (v : View). v.hash) one in
    let carried : new.carried ≡ old.carried = ap (λ (v : View). v.carried) four ∙ ap (λ (v : View). v.carried) three ∙ ap (λ (v : View). v.carried) two ∙ ap (λ (v : View). v.carried) one in
    let limits : new.limits ≡ old.limits = ap (λ (v : View). v.limits) four ∙ ap (λ (v : View). v.limits) three ∙ ap (λ (v : View). v.limits) two ∙ ap (λ (v : View). v.limits) one in
    let phase : new.phase ≡ old.phase = ap (λ (v : View). v.phase) four ∙ sym whole in
    λ i. record new { hash = hash i; carried = carried i; limits = limits i; phase = phase i }

pub collected : (old through finished compacted new : View) (nilled fired : ℕ) → old.phase ≡ Whole → heap_graph through ≡ heap_graph old → heap_room through ≡ heap_room old
    → through ≡ record (begun old) { words = through.words; special = through.special; handles = through.handles; mourners = through.mourners } → Finishes through nilled fired finished → IsCompactedHeap finished compacted
    → heap_graph new ≡ heap_graph compacted → heap_room new ≡ heap_room compacted → new ≡ record compacted { words = new.words; phase = Whole } → IsWhole new → CollectsHeap old nilled fired new
collected old through finished compacted new nilled fired unmarked graph room marks f c graph_then room_then clears whole = record {
  graph = marked_graph finished;
  collect = subst (λ g. Collect g none nilled fired (marked_graph finished)) graph (collects through finished nilled fired f);
  room = c.room.room;
  collected = subst (λ r. RoomCollected r (marked_graph finished) c.room.room) (f.room ∙ room) c.room.collected;
  stands = record {
    whole = whole;
    place = c.swept.place;
    back = c.swept.back;
    graph = subst (λ g. Iso (marked_graph finished) g c.swept.place c.swept.back) (sym graph_then) c.swept.graph;
    figures = subst (λ r. SameRoom c.room.room r c.swept.place) (sym room_then) c.room.figures;
  };
  rest = kept old through finished compacted new unmarked marks f.rest c.compacts.rest clears;
}

module _ (old through finished compacted new : View) (nilled fired : ℕ) (graph : heap_graph through ≡ heap_graph old) (room : heap_room through ≡ heap_room old) (spaces : through.spaces ≡ old.spaces) (f : Finishes through nilled fired finished)
    (c : IsCompactedHeap finished compacted) (clears : ClearsMarks compacted new) where
  cell_same : (s : ℕ) → (store_of new).cell s ≡ (store_of compacted).cell s
  cell_same s = ap (λ (h : Store). h.cell s) clears.store

  pub placed : GoesAsPlanned old new
  placed = record {
    mid = f.mid;
    fired = fired;
    rounds = subst (λ g. Rounds none g fired f.mid) graph f.rounds;
    marked = finished;
    live = f.exact;
    internal = f.through.inner;
    graph = f.graph;
    room = f.room ∙ room;
    spaces = ap (λ (v : View). v.spaces) f.rest ∙ spaces;
    goes = c.goes;
    compacted = compacted;
    compacts = c.compacts;
    clears = clears;
    there = λ s on. ap is_there (cell_same (c.goes s)) ∙ (and_parts (is_there ((store_of compacted).cell (c.goes s))) (is_marked compacted.words (c.goes s)) (c.stands.there s on)).0;
    only = λ s on. c.stands.only s (sym (ap is_start (cell_same s)) ∙ on);
  }
