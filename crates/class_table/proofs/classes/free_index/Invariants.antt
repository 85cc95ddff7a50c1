use Rattle.std.proofs.Common.{◌≡◌, ◌≤◌}
use Rattle.spur_graph.specs.Hashes.{free_index, first_entered}
use Rattle.spur_graph.specs.Ordinary.{class_limit}
use Rattle.spur_graph.specs.Heaps.{heap_graph}
use Rattle.class_table.proofs.FreeIndices.{least_from}
use Rattle.class_table.proofs.classes.free_index.Given as goal

abbrev pub invariant-indices : goal.invariant-indices
invariant-indices l = record {
  least : free_index (heap_graph l.fn.heap) ≡ least_from (heap_graph l.fn.heap) l.index;
  first : first_entered ≤ l.index;
  below : l.index ≤ class_limit;
}
