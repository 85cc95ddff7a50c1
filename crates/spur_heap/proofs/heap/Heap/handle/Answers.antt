use Rattle.std.proofs.Common.{subst}
use Rattle.std.specs.Prelude.{IfSome}
use Rattle.spur_graph.specs.Heaps.{View}
use Rattle.spur_heap.specs.Parts.{view_of}
use Rattle.spur_heap.specs.Views.{IsGood}
use Rattle.spur_heap.proofs.Bindings.{held_good}
use Rattle.spur_heap.proofs.heap.Heap.handle.Goals as goal

pub returns-clause-good : goal.returns-clause-good
returns-clause-good c =
    subst (λ (v : View). IfSome c.get.result (IsGood v)) c.self.view_is
    (held_good (view_of c.self.inside.parts) (c.args.mutator, c.args.name.now.bytes) c.self.invariant.whole.held c.get.result c.get.ensures)
