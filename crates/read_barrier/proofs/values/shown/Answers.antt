use Rattle.std.proofs.Common.{◌∙◌, sym, ap, rules}
use Rattle.spur_graph.specs.declared.answer.Shown.TheVariants as shows
use Rattle.spur_graph.specs.Shows.{shown}
use Rattle.spur_graph.specs.Heaps.{heap_graph}
use Rattle.immediates.specs.declared.word_kind.Kind.TheVariants as kinds
use Rattle.read_barrier.proofs.Telling.{value_of_kind}
use Rattle.read_barrier.proofs.values.shown.Goals as goal

pub returns-in-Int : goal.returns-in-Int
returns-in-Int c = rw (value_of_kind c.args.heap.now c.args.word c.kind.result kinds.Int c.kind.ensures.value c.in-Int.is) (search rules)

pub returns-in-Char : goal.returns-in-Char
returns-in-Char c =
    let v = c.args.heap.now in
    ap (λ n. shows.Char n) c.char_of.ensures ∙ sym (ap (shown (heap_graph v)) (value_of_kind v c.args.word c.kind.result kinds.Char c.kind.ensures.value c.in-Char.is))

pub returns-in-Float : goal.returns-in-Float
returns-in-Float c =
    let v = c.args.heap.now in
    sym (ap (shown (heap_graph v)) (value_of_kind v c.args.word c.kind.result kinds.Float c.kind.ensures.value c.in-Float.is))
