use Rattle.std.proofs.Common.{sym, subst}
use Rattle.spur_graph.specs.Heaps.{View}
use Rattle.spur_heap.specs.Views.{IsGood}
use Rattle.spur_heap.proofs.Bindings.{bound_parts}
use Rattle.spur_heap.proofs.heap.Heap.bind.Goals as goal

pub invariant_of-self : goal.invariant_of-self
invariant_of-self c =
    bound_parts c.self.inside.parts c.self.invariant c.bind.result (c.args.mutator, c.args.name.bytes) c.args.word c.bind.new.self
    (subst (λ (v : View). IsGood v c.args.word) (sym c.self.view_is) c.requires.good) c.bind.ensures.bound c.bind.ensures.same
