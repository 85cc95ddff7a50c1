use Rattle.std.proofs.Common.{◌∙◌, ◌<◌, length, sym, ap, arith}
use Rattle.std.proofs.lemmas.List.{get_or_default}
use Rattle.spur_graph.specs.declared.answer.Value.TheVariants.{Ref}
use Rattle.spur_graph.specs.Instances.{number_of}
use Rattle.spur_graph.specs.Heaps.{heap_value}
use Rattle.spur_heap.specs.Views.{node_in}
use Rattle.class_table.proofs.Numbers.{integer_read, no_integer_read}
use Rattle.class_table.proofs.instances.layout_of.Goals as goal

pub returns-in-Int : goal.returns-in-Int
returns-in-Int c =
    let v = c.args.heap.now in
    let pointers = (node_in v c.args.class).pointers in
    let low : 2 < length pointers = omega (arith, c.if-pointer_count-le-LAYOUT.false, c.pointer_count.ensures) in
    sym (ap number_of (get_or_default pointers 2 (Ref 0) (heap_value v 0) low ∙ sym c.pointer-word.ensures.value) ∙ integer_read v c.pointer-word.result c.kind.result c.kind.ensures.value c.in-Int.is)

pub returns-in_default : goal.returns-in_default
returns-in_default c =
    let v = c.args.heap.now in
    let pointers = (node_in v c.args.class).pointers in
    let low : 2 < length pointers = omega (arith, c.if-pointer_count-le-LAYOUT.false, c.pointer_count.ensures) in
    sym (ap number_of (get_or_default pointers 2 (Ref 0) (heap_value v 0) low ∙ sym c.pointer-word.ensures.value) ∙ no_integer_read v c.pointer-word.result c.kind.result c.kind.ensures.value c.in_default.not-Int)
