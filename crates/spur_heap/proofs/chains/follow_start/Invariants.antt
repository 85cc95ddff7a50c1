use Rattle.std.proofs.Common.{◌≡◌, ◌+◌, ◌<◌, length, true}
use Rattle.spur_graph.specs.Cells.{final}
use Rattle.spur_graph.specs.Heaps.{store_of}
use Rattle.spur_heap.specs.Words.{starts_at}
use Rattle.spur_heap.specs.Parts.{view_of}
use Rattle.spur_heap.proofs.Hops.{hops}
use Rattle.spur_heap.proofs.chains.follow_start.Given as goal

abbrev pub invariant-hops : goal.invariant-hops
invariant-hops l = record {
  there : starts_at (view_of l.parts) l.at ≡ true;
  same : final (store_of (view_of l.parts)) l.at ≡ final (store_of (view_of l.parts)) l.start;
  inside : l.at + 1 < length l.parts.region;
}

abbrev pub decreases-hops : goal.decreases-hops
decreases-hops l = hops (view_of l.parts) l.at
