use Rattle.spur_graph.specs.Heaps.{heap_value}
use Rattle.marker.proofs.Visiting.{visits_named}
use Rattle.marker.proofs.scan.visit.Goals as goal

pub returns-in-Ok : goal.returns-in-Ok
returns-in-Ok c = record {
  visits = visits_named c.args.heap.now c.reach.new.heap (heap_value c.args.heap.now c.args.word) c.in-Ok.start c.in-Ok.ensures.value c.reach.ensures.visits;
}
