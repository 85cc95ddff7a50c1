use Rattle.std.proofs.Common.{◌≡◌, List, ℕ, length, sym, ap, arith}
use Rattle.spur_graph.specs.Graph.{waiting}
use Rattle.spur_graph.specs.Heaps.{View, heap_graph}
use Rattle.spur_heap.specs.Parts.{view_of}
use Rattle.spur_heap.proofs.Mourned.{waiting_count, left_count}
use Rattle.spur_heap.proofs.heap.Heap.mourner_count.Goals as goal

pub overflow_sub-result : goal.overflow_sub-result
overflow_sub-result c = let same = ap (λ (es : List ℕ). length es) c.as_slice.ensures.value in let taken = c.self.invariant.tables.taken in omega (arith, same, taken)

pub returns : goal.returns
returns c =
    let p = c.self.inside.parts in
    let same = ap (λ (es : List ℕ). length es) c.as_slice.ensures.value in
    let count = left_count p c.self.invariant in
    let all : length (waiting (heap_graph c.args.self.now)) ≡ length (waiting (heap_graph (view_of p))) = ap (λ (v : View). length (waiting (heap_graph v))) (sym c.self.view_is) in
    let ends = waiting_count (view_of p) in
    omega (arith, same, count, all, ends)
