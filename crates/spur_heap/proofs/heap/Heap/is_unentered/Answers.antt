use Rattle.std.proofs.Common.{ap, ◌∙◌}
use Rattle.std.specs.Option.{is_none}
use Rattle.std.specs.FinMap.{get}
use Rattle.spur_graph.specs.Heaps.{View, heap_graph}
use Rattle.spur_heap.specs.Parts.{view_of}
use Rattle.spur_heap.proofs.Puts.{whole_sound}
use Rattle.spur_heap.proofs.ClassTable.{unentered_told}
use Rattle.spur_heap.proofs.heap.Heap.is_unentered.Goals as goal

pub returns : goal.returns
returns c =
    let v : View = view_of c.self.inside.parts in
    unentered_told v (whole_sound v c.self.invariant.whole) c.args.index c.class_word.result c.first_word.result c.class_word.ensures.class c.first_word.ensures.word
    ∙ ap (λ (u : View). is_none (get (heap_graph u).classes c.args.index)) c.self.view_is
