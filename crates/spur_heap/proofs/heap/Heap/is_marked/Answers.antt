use Rattle.std.proofs.Common.{◌<◌, sym, subst, length}
use Rattle.spur_graph.specs.Heaps.{View, IsWhole}
use Rattle.spur_heap.proofs.Marking.{mark_inside}
use Rattle.spur_heap.proofs.heap.Heap.is_marked.Goals as goal

pub get-requires : goal.get-requires
get-requires c =
    let whole : IsWhole c.args.self.now = subst (λ (v : View). IsWhole v) c.self.view_is c.self.invariant.whole in
    subst (λ (v : View). c.args.start < length v.words) (sym c.self.view_is) (mark_inside c.args.self.now whole c.args.start c.requires.there)
