use Rattle.std.proofs.Common.{◌∙◌}
use Rattle.std.specs.Prelude.{[], ◌∷◌}
use Rattle.spur_graph.specs.declared.answer.Refusal.TheVariants as r
use Rattle.spur_graph.specs.Refusals.{first, test, index_in}
use Rattle.spur_graph.specs.Heaps.{heap_graph, heap_value}
use Rattle.spur_graph.proofs.Refusing.{handed_on}
use Rattle.spur_heap.specs.Views.{node_in}
use Rattle.read_barrier.proofs.Named.{store_left, slot_stored}
use Rattle.read_barrier.proofs.slots.store.Goals as goal

pub returns-in_err-refuse_unwritable-clause-refusal : goal.returns-in_err-refuse_unwritable-clause-refusal
returns-in_err-refuse_unwritable-clause-refusal c =
    let v = c.args.heap.now in
    let start = c.in_ok-start in
    store_left v start.start (heap_value v c.args.object) start.ensures.there start.ensures.value c.args.i
    ∙ (λ k. first (c.in_err-refuse_unwritable.ensures k ∷ index_in (node_in v start.start).pointers c.args.i ∷ test (node_in v start.start).readonly r.ReadOnly ∷ []))
    ∙ handed_on _ c.in_err-refuse_unwritable.field-0.0 c.from_residual-in_err-refuse_unwritable.ensures.1

pub returns-in_err-at-clause-refusal : goal.returns-in_err-at-clause-refusal
returns-in_err-at-clause-refusal c =
    let v = c.args.heap.now in
    let start = c.in_ok-start in
    store_left v start.start (heap_value v c.args.object) start.ensures.there start.ensures.value c.args.i
    ∙ (λ k. first (c.in_ok-refuse_unwritable.ensures k ∷ c.in_err-at.ensures.refusal k ∷ test (node_in v start.start).readonly r.ReadOnly ∷ []))
    ∙ handed_on _ c.in_err-at.field-0.0 c.from_residual-in_err-at.ensures.1

pub returns-in_err-refuse_readonly-clause-refusal : goal.returns-in_err-refuse_readonly-clause-refusal
returns-in_err-refuse_readonly-clause-refusal c =
    let v = c.args.heap.now in
    let start = c.in_ok-start in
    store_left v start.start (heap_value v c.args.object) start.ensures.there start.ensures.value c.args.i
    ∙ (λ k. first (c.in_ok-refuse_unwritable.ensures k ∷ c.in_ok-at.ensures.refusal k ∷ c.in_err-refuse_readonly.ensures k ∷ []))
    ∙ handed_on _ c.in_err-refuse_readonly.field-0.0 c.from_residual-in_err-refuse_readonly.ensures.1

pub returns-clause-refusal : goal.returns-clause-refusal
returns-clause-refusal c =
    let v = c.args.heap.now in
    let start = c.in_ok-start in
    store_left v start.start (heap_value v c.args.object) start.ensures.there start.ensures.value c.args.i
    ∙ (λ k. first (c.in_ok-refuse_unwritable.ensures k ∷ c.in_ok-at.ensures.refusal k ∷ c.in_ok-refuse_readonly.ensures k ∷ []))

pub returns-clause-graph : goal.returns-clause-graph
returns-clause-graph c =
    let v = c.args.heap.now in
    let start = c.in_ok-start in
    slot_stored v start.start (heap_value v c.args.object) start.ensures.there start.ensures.value c.args.i c.in_ok-at.at (heap_value v c.args.value) (heap_graph c.put_pointer.new.self)
    c.in_ok-at.ensures.index.0 c.put_pointer.ensures.graph
