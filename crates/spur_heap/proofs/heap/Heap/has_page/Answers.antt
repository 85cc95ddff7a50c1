use Rattle.std.proofs.Common.{◌/◌, ap, ◌∙◌}
use Rattle.std.specs.FinSet.{contains}
use Rattle.spur_graph.specs.Heaps.{View, heap_room}
use Rattle.spur_heap.specs.Parts.{view_of}
use Rattle.spur_heap.proofs.Puts.{whole_sound}
use Rattle.spur_heap.proofs.ClassTable.{page_told}
use Rattle.spur_heap.proofs.heap.Heap.has_page.Goals as goal

pub returns : goal.returns
returns c =
    let v : View = view_of c.self.inside.parts in
    page_told v (whole_sound v c.self.invariant.whole) c.args.index c.requires.below c.root_word.result c.first_word.result c.root_word.ensures c.first_word.ensures.word
    ∙ ap (λ (u : View). contains (heap_room u).pages (c.args.index / 1024)) c.self.view_is
