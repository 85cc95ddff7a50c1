use Rattle.std.proofs.Common.{arith}
use Rattle.std.proofs.lemmas.Bool.{or_right}
use Rattle.spur_graph.specs.Value.{is_immediate_word}
use Rattle.spur_graph.specs.Ordinary.{is_good_reference}
use Rattle.spur_heap.specs.Views.{store}
use Rattle.heap_cells.specs.Settled.{word_of}
use Rattle.spur_heap.proofs.Following.{own_good, own_value}
use Rattle.spur_heap.proofs.Puts.{start_inside}
use Rattle.spur_heap.proofs.heap.Heap.word_of.Goals as goal

pub overflow_mul-result : goal.overflow_mul-result
overflow_mul-result c =
    let far = start_inside c.args.self.now c.whole.ensures.whole c.args.start c.requires.there in
    let few = c.whole.ensures.whole.few in
    omega (arith, far, few)

pub returns-clause-good : goal.returns-clause-good
returns-clause-good c =
    let v = c.args.self.now in
    or_right (is_immediate_word (word_of c.args.start)) (is_good_reference (store v) (word_of c.args.start)) (own_good v c.args.start c.requires.there)

pub returns-clause-value : goal.returns-clause-value
returns-clause-value c = own_value c.args.self.now c.args.start c.requires.there
