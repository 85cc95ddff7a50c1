use Rattle.std.proofs.Common.{sym, ◌∙◌, arith}
use Rattle.spur_graph.specs.Heaps.{heap_value}
use Rattle.weak_ephemeron.proofs.FixedSlots.{too_short, by_slot, no_number, number_slot}
use Rattle.weak_ephemeron.proofs.strong.fixed_slots.Goals as goal

pub returns-then-pointer_count-le-INSTANCE_SLOT : goal.returns-then-pointer_count-le-INSTANCE_SLOT
returns-then-pointer_count-le-INSTANCE_SLOT c =
    sym (too_short c.args.heap.now (heap_value c.args.heap.now c.args.class) c.in-Ok.start c.in-Ok.ensures.there c.in-Ok.ensures.value (omega (arith, c.pointer_count.ensures, c.if-pointer_count-le-INSTANCE_SLOT.true)))

pub returns-then-slot-ne1 : goal.returns-then-slot-ne1
returns-then-slot-ne1 c =
    let v = c.args.heap.now in
    sym (by_slot v (heap_value v c.args.class) c.in-Ok.start c.in-Ok.ensures.there c.in-Ok.ensures.value c.pointer-slot.result (omega (arith, c.pointer_count.ensures, c.if-pointer_count-le-INSTANCE_SLOT.false)) c.pointer-slot.ensures.value
    ∙ no_number v c.pointer-slot.result c.pointer-slot.ensures.good (omega (arith, c.if-slot-ne1.true)))

pub returns : goal.returns
returns c =
    let v = c.args.heap.now in
    sym (by_slot v (heap_value v c.args.class) c.in-Ok.start c.in-Ok.ensures.there c.in-Ok.ensures.value c.pointer-slot.result (omega (arith, c.pointer_count.ensures, c.if-pointer_count-le-INSTANCE_SLOT.false)) c.pointer-slot.ensures.value
    ∙ number_slot v c.pointer-slot.result (omega (arith, c.pointer-slot.type_inv)) (omega (arith, c.if-slot-ne1.false)))
