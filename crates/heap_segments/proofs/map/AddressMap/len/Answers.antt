use Rattle.std.proofs.Common.{subst, List}
use Rattle.spur_graph.specs.Segments.{Segment}
use Rattle.spur_graph.specs.ImageFile.{header_bytes}
use Rattle.heap_segments.specs.Rising.{IsRising}
use Rattle.heap_segments.proofs.Laid.{rising}
use Rattle.heap_segments.proofs.map.AddressMap.len.Goals as goal

pub returns-clause-rising : goal.returns-clause-rising
returns-clause-rising c = subst (λ (segs : List Segment). IsRising 0 segs) c.self.view_is (rising header_bytes 0 0 c.self.inside.entries.items c.self.invariant.0.laid)
