use Rattle.std.proofs.Common.{false}
use Rattle.spur_graph.specs.Heaps.{heap_value}
use Rattle.pinning.proofs.Naming.{pinned_named}
use Rattle.pinning.proofs.flags.unpin.Goals as goal

pub returns-clause-graph : goal.returns-clause-graph
returns-clause-graph c =
    let v = c.args.heap.now in
    let start = c.in_ok-start in
    pinned_named v c.set_pinned.new.self start.start (heap_value v c.args.object) false start.ensures.there start.ensures.value c.set_pinned.ensures.graph
