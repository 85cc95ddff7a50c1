use Rattle.std.proofs.Common.{◌∙◌}
use Rattle.std.specs.Prelude.{[], ◌∷◌}
use Rattle.spur_graph.specs.declared.answer.Refusal.TheVariants as r
use Rattle.spur_graph.specs.Refusals.{first, test, index_in, unit_range}
use Rattle.spur_graph.specs.Heaps.{heap_graph, heap_value}
use Rattle.spur_graph.proofs.Refusing.{handed_on}
use Rattle.spur_heap.specs.Views.{node_in}
use Rattle.read_barrier.proofs.Named.{store_unit_left, unit_stored}
use Rattle.read_barrier.proofs.units.store_unit.Goals as goal

pub returns-in_err-refuse_unitless-clause-refusal : goal.returns-in_err-refuse_unitless-clause-refusal
returns-in_err-refuse_unitless-clause-refusal c =
    let v = c.args.heap.now in
    let start = c.in_ok-start in
    let n = node_in v start.start in
    store_unit_left v start.start (heap_value v c.args.object) start.ensures.there start.ensures.value c.args.i c.args.n
    ∙ (λ k. first (c.in_err-refuse_unitless.ensures k ∷ index_in n.units c.args.i ∷ unit_range n c.args.n ∷ test n.readonly r.ReadOnly ∷ []))
    ∙ handed_on _ c.in_err-refuse_unitless.field-0.0 c.from_residual-in_err-refuse_unitless.ensures.1

pub returns-in_err-at-clause-refusal : goal.returns-in_err-at-clause-refusal
returns-in_err-at-clause-refusal c =
    let v = c.args.heap.now in
    let start = c.in_ok-start in
    let n = node_in v start.start in
    store_unit_left v start.start (heap_value v c.args.object) start.ensures.there start.ensures.value c.args.i c.args.n
    ∙ (λ k. first (c.in_ok-refuse_unitless.ensures k ∷ c.in_err-at.ensures.refusal k ∷ unit_range n c.args.n ∷ test n.readonly r.ReadOnly ∷ []))
    ∙ handed_on _ c.in_err-at.field-0.0 c.from_residual-in_err-at.ensures.1

pub returns-in_err-unit-clause-refusal : goal.returns-in_err-unit-clause-refusal
returns-in_err-unit-clause-refusal c =
    let v = c.args.heap.now in
    let start = c.in_ok-start in
    let n = node_in v start.start in
    store_unit_left v start.start (heap_value v c.args.object) start.ensures.there start.ensures.value c.args.i c.args.n
    ∙ (λ k. first (c.in_ok-refuse_unitless.ensures k ∷ c.in_ok-at.ensures.refusal k ∷ c.in_err-unit.ensures.refusal k ∷ test n.readonly r.ReadOnly ∷ []))
    ∙ handed_on _ c.in_err-unit.field-0.0 c.from_residual-in_err-unit.ensures.1

pub returns-in_err-refuse_readonly-clause-refusal : goal.returns-in_err-refuse_readonly-clause-refusal
returns-in_err-refuse_readonly-clause-refusal c =
    let v = c.args.heap.now in
    let start = c.in_ok-start in
    store_unit_left v start.start (heap_value v c.args.object) start.ensures.there start.ensures.value c.args.i c.args.n
    ∙ (λ k. first (c.in_ok-refuse_unitless.ensures k ∷ c.in_ok-at.ensures.refusal k ∷ c.in_ok-unit.ensures.refusal k ∷ c.in_err-refuse_readonly.ensures k ∷ []))
    ∙ handed_on _ c.in_err-refuse_readonly.field-0.0 c.from_residual-in_err-refuse_readonly.ensures.1

pub returns-clause-refusal : goal.returns-clause-refusal
returns-clause-refusal c =
    let v = c.args.heap.now in
    let start = c.in_ok-start in
    store_unit_left v start.start (heap_value v c.args.object) start.ensures.there start.ensures.value c.args.i c.args.n
    ∙ (λ k. first (c.in_ok-refuse_unitless.ensures k ∷ c.in_ok-at.ensures.refusal k ∷ c.in_ok-unit.ensures.refusal k ∷ c.in_ok-refuse_readonly.ensures k ∷ []))

pub returns-clause-graph : goal.returns-clause-graph
returns-clause-graph c =
    let v = c.args.heap.now in
    let start = c.in_ok-start in
    unit_stored v start.start (heap_value v c.args.object) start.ensures.there start.ensures.value c.args.i c.in_ok-at.at c.args.n c.in_ok-unit.unit (heap_graph c.put_unit.new.self)
    c.in_ok-at.ensures.index.0 c.in_ok-unit.ensures.value.0 c.put_unit.ensures.graph
