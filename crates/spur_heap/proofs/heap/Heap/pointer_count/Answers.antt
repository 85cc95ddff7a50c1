use Rattle.std.proofs.Common.{ap, sym, ◌∙◌, subst}
use Rattle.spur_graph.specs.Cells.{pointer_count}
use Rattle.spur_graph.specs.Heaps.{View, IsWhole}
use Rattle.spur_heap.specs.Words.{body_in}
use Rattle.spur_heap.proofs.Puts.{pointers_count}
use Rattle.spur_heap.proofs.heap.Heap.pointer_count.Goals as goal

pub returns : goal.returns
returns c =
    let whole : IsWhole c.args.self.now = subst (λ (v : View). IsWhole v) c.self.view_is c.self.invariant.whole in
    c.pointer_count_of.ensures.count ∙ ap (λ (v : View). pointer_count (body_in v c.args.start)) c.self.view_is
    ∙ sym (pointers_count c.args.self.now whole c.args.start c.requires.there)
