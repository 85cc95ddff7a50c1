use Rattle.std.proofs.Common.{ap, ◌≡◌, ◌∙◌, arith}
use Rattle.spur_graph.specs.Ordinary.{is_no_index}
use Rattle.spur_heap.specs.Views.{node_in}
use Rattle.spur_heap.proofs.ClassTold.{hash_known}
use Rattle.class_table.proofs.classes.index_of.Goals as goal

pub returns-clause-known : goal.returns-clause-known
returns-clause-known c =
    let is : c.hash.result ≡ (node_in c.args.heap.now c.args.class).hash = c.hash.ensures.value ∙ c.header.ensures.hash in
    let bound = c.hash.ensures.bound in
    ap is_no_index is ∙ hash_known c.args.heap.now c.whole.ensures.whole c.args.class c.requires.there (omega (arith, is, bound)) c.requires.entered
