use Rattle.spur_heap.proofs.Bindings.{unbound_parts}
use Rattle.spur_heap.proofs.heap.Heap.unbind.Goals as goal

pub invariant_of-self : goal.invariant_of-self
invariant_of-self c = unbound_parts c.self.inside.parts c.self.invariant (c.args.mutator, c.args.name.now.bytes) c.unbind.new.self c.unbind.ensures.unbound
