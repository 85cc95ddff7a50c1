use Rattle.spur_graph.specs.Heaps.{heap_value}
use Rattle.read_barrier.proofs.Telling.{class_told}
use Rattle.read_barrier.proofs.values.class_of.Goals as goal

pub returns-clause-class : goal.returns-clause-class
returns-clause-class c =
    class_told c.args.heap.now c.whole.ensures.whole (heap_value c.args.heap.now c.args.word) c.class_index.result c.class_at.result c.class_index.ensures.index c.class_index.ensures.class c.class_at.ensures.class
