use Rattle.std.proofs.Common.{◌<◌, drop}
use Rattle.object_header.specs.Chunks.{Cuts}
use Rattle.spur_graph.specs.Spaces.{old_row}
use Rattle.spur_heap.specs.Parts.{spaces_of}
use Rattle.spur_heap.proofs.places.first_start.Given as goal

abbrev pub invariant-chunks : goal.invariant-chunks
invariant-chunks l = record {
  row : Cuts l.parts.region l.at l.parts.old_end (drop l.counter (old_row l.parts.region (spaces_of l.parts)));
  inside : l.at < l.parts.old_end;
}
