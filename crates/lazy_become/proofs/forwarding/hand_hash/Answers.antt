use Rattle.std.proofs.Common.{◌∙◌}
use Rattle.lazy_become.proofs.Handed.{some_handed, none_handed}
use Rattle.lazy_become.proofs.forwarding.hand_hash.Goals as goal

pub returns-then-hash-ne0-clause-graph : goal.returns-then-hash-ne0-clause-graph
returns-then-hash-ne0-clause-graph c =
    some_handed c.args.heap.now c.args.from c.args.to c.hash-hash.result c.requires.source c.requires.target (c.hash-hash.ensures.value ∙ c.header.ensures.hash) c.put_hash.new.self c.if-hash-ne0.true c.put_hash.ensures.graph

pub returns-else-hash-ne0-clause-graph : goal.returns-else-hash-ne0-clause-graph
returns-else-hash-ne0-clause-graph c =
    none_handed c.args.heap.now c.args.from c.args.to c.hash-hash.result c.requires.source c.requires.target (c.hash-hash.ensures.value ∙ c.header.ensures.hash) c.if-hash-ne0.false
