use Rattle.spur_graph.specs.Heaps.{heap_value}
use Rattle.pinning.proofs.Naming.{readonly_named}
use Rattle.pinning.proofs.flags.set_readonly.Goals as goal

pub returns-clause-graph : goal.returns-clause-graph
returns-clause-graph c =
    let v = c.args.heap.now in
    let start = c.in_ok-start in
    readonly_named v c.set_readonly.new.self start.start (heap_value v c.args.object) c.args.on start.ensures.there start.ensures.value c.set_readonly.ensures.graph
