use Rattle.std.proofs.Common.{ap, sym, ◌∙◌, ◌<◌, eqb, get_or, length, subst, arith}
use Rattle.object_header.specs.Chunks.{leads}
use Rattle.spur_graph.specs.Heaps.{View, IsWhole}
use Rattle.spur_heap.proofs.Puts.{start_inside}
use Rattle.spur_heap.proofs.SpotsAt.{overflow_told}
use Rattle.spur_heap.proofs.heap.Heap.has_overflow.Goals as goal

pub get-requires : goal.get-requires
get-requires c =
    let whole : IsWhole c.args.self.now = subst (λ (v : View). IsWhole v) c.self.view_is c.self.invariant.whole in
    let low = start_inside c.args.self.now whole c.args.start c.requires.there in
    subst (λ (v : View). c.args.start < length v.words) (sym c.self.view_is) (omega (arith, low))

pub returns : goal.returns
returns c =
    let whole : IsWhole c.args.self.now = subst (λ (v : View). IsWhole v) c.self.view_is c.self.invariant.whole in
    ap (λ n. eqb n 255) c.count.ensures.value ∙ ap leads (c.get.ensures ∙ ap (λ (v : View). get_or v.words c.args.start 0) c.self.view_is) ∙ overflow_told c.args.self.now whole c.args.start c.requires.there
