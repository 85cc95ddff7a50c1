use Rattle.std.proofs.Common.{sym, ◌∙◌}
use Rattle.std.specs.FinMap.{get}
use Rattle.spur_graph.specs.declared.answer.Value.TheVariants.{Ref}
use Rattle.spur_graph.specs.Heaps.{heap_graph, heap_value}
use Rattle.spur_heap.proofs.ClassValues.{class_there}
use Rattle.weak_ephemeron.proofs.FixedSlots.{one_entered}
use Rattle.weak_ephemeron.proofs.strong.fixed_slots_at.Goals as goal

pub returns : goal.returns
returns c =
    let v = c.args.heap.now in
    c.fixed_slots.ensures
    ∙ one_entered (heap_graph v) (get (heap_graph v).classes c.args.index) (heap_value v c.class_at.result) (Ref (heap_graph v).nil) (sym c.is_unentered.ensures ∙ c.if-is_unentered.false)
    (class_there v c.whole.ensures.whole c.args.index c.requires.below c.class_at.result c.class_at.ensures.class)
