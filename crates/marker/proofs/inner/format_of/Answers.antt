use Rattle.std.proofs.Common.{◌<◌, sym, ◌∙◌, ap, subst, length, get_or}
use Rattle.object_header.specs.Head.{format_of}
use Rattle.spur_graph.specs.Heaps.{View, IsWhole}
use Rattle.spur_heap.proofs.Marking.{mark_inside}
use Rattle.spur_heap.proofs.Puts.{whole_sound}
use Rattle.spur_heap.proofs.SlotCounts.{format_read}
use Rattle.marker.proofs.inner.format_of.Goals as goal

pub get-requires : goal.get-requires
get-requires c =
    let whole : IsWhole c.args.heap.now = subst (λ (v : View). IsWhole v) c.heap.view_is c.heap.invariant.whole in
    subst (λ (v : View). c.args.start < length v.words) (sym c.heap.view_is) (mark_inside c.args.heap.now whole c.args.start c.requires.there)

pub returns : goal.returns
returns c =
    let whole : IsWhole c.args.heap.now = subst (λ (v : View). IsWhole v) c.heap.view_is c.heap.invariant.whole in
    c.format.ensures.value ∙ ap format_of (c.get.ensures ∙ ap (λ (v : View). get_or v.words c.args.start 0) c.heap.view_is)
    ∙ sym (format_read c.args.heap.now (whole_sound c.args.heap.now whole) c.args.start c.requires.there)
