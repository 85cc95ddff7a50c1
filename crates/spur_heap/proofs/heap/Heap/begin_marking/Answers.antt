use Rattle.std.proofs.Common.{◌≡◌, sym, ap, ◌∙◌, subst, false}
use Rattle.spur_graph.specs.Heaps.{View, Marked, IsWhole, is_marked}
use Rattle.spur_heap.specs.Parts.{view_of}
use Rattle.spur_heap.specs.MarkBits.{IsObject, begun}
use Rattle.spur_heap.proofs.Marking.{begun_parts, none_marked}
use Rattle.spur_heap.proofs.heap.Heap.begin_marking.Goals as goal

pub invariant_of-self : goal.invariant_of-self
invariant_of-self c = begun_parts c.self.inside.parts c.self.invariant c.clear.new.self c.clear.ensures.capacity

pub returns-clause-begun : goal.returns-clause-begun
returns-clause-begun c = (λ i. record (view_of c.self.inside.parts) { phase = Marked; stack = c.clear.ensures.items i }) ∙ ap begun c.self.view_is

pub returns-clause-none : goal.returns-clause-none
returns-clause-none c s there =
    let whole : IsWhole c.args.self.now = subst (λ (v : View). IsWhole v) c.self.view_is c.self.invariant.whole in
    let there' : IsObject c.args.self.now s = subst (λ (v : View). IsObject (begun v) s) c.self.view_is there in
    subst (λ (v : View). is_marked v.words s ≡ false) (sym c.self.view_is) (none_marked c.args.self.now whole c.requires.phase s there')
