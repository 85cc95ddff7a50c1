use Rattle.std.proofs.Common.{ap, sym, ◌∙◌, subst}
use Rattle.object_header.specs.Formats.{unit_bytes_of}
use Rattle.spur_graph.specs.Heaps.{View, IsWhole}
use Rattle.spur_heap.specs.Words.{body_in}
use Rattle.spur_heap.proofs.Puts.{fields_are}
use Rattle.spur_heap.proofs.heap.Heap.unit_bytes.Goals as goal

pub returns : goal.returns
returns c =
    let whole : IsWhole c.args.self.now = subst (λ (v : View). IsWhole v) c.self.view_is c.self.invariant.whole in
    c.unit_bytes.ensures ∙ ap unit_bytes_of (c.format_of.ensures ∙ ap (λ (v : View). (body_in v c.args.start).format) c.self.view_is
    ∙ sym (fields_are c.args.self.now whole c.args.start c.requires.there).format)
