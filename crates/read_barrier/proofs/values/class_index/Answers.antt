use Rattle.std.proofs.Common.{◌∙◌, sym, ap}
use Rattle.spur_graph.specs.Classes.{class_index}
use Rattle.spur_graph.specs.Heaps.{heap_graph, heap_value}
use Rattle.immediates.specs.declared.word_kind.Kind.TheVariants as kinds
use Rattle.read_barrier.proofs.Telling.{value_of_kind, object_class}
use Rattle.read_barrier.proofs.values.class_index.Goals as goal

pub returns-in-Int-clause-class : goal.returns-in-Int-clause-class
returns-in-Int-clause-class c =
    let v = c.args.heap.now in
    sym (ap (class_index (heap_graph v)) (value_of_kind v c.args.word c.kind.result kinds.Int c.kind.ensures.value c.in-Int.is))

pub returns-in-Char-clause-class : goal.returns-in-Char-clause-class
returns-in-Char-clause-class c =
    let v = c.args.heap.now in
    sym (ap (class_index (heap_graph v)) (value_of_kind v c.args.word c.kind.result kinds.Char c.kind.ensures.value c.in-Char.is))

pub returns-in-Float-clause-class : goal.returns-in-Float-clause-class
returns-in-Float-clause-class c =
    let v = c.args.heap.now in
    sym (ap (class_index (heap_graph v)) (value_of_kind v c.args.word c.kind.result kinds.Float c.kind.ensures.value c.in-Float.is))

pub returns-in-Reference-clause-class : goal.returns-in-Reference-clause-class
returns-in-Reference-clause-class c =
    let v = c.args.heap.now in
    object_class v c.start.result c.class.result (heap_value v c.args.word) c.start.ensures.there c.start.ensures.value (c.class.ensures.value ∙ c.header.ensures.class)
