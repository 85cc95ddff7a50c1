use Rattle.std.proofs.Common.{◌∙◌}
use Rattle.std.specs.Prelude.{[], ◌∷◌}
use Rattle.spur_graph.specs.Refusals.{first, index_in}
use Rattle.spur_graph.specs.Heaps.{heap_value}
use Rattle.spur_graph.proofs.Refusing.{handed_on}
use Rattle.spur_heap.specs.Views.{node_in}
use Rattle.read_barrier.proofs.Named.{fetch_left, slot_value}
use Rattle.read_barrier.proofs.slots.fetch.Goals as goal

pub returns-in_err-refuse_raw-clause-refusal : goal.returns-in_err-refuse_raw-clause-refusal
returns-in_err-refuse_raw-clause-refusal c =
    let v = c.args.heap.now in
    let start = c.in_ok-start in
    fetch_left v start.start (heap_value v c.args.object) start.ensures.there start.ensures.value c.args.i
    ∙ (λ k. first (c.in_err-refuse_raw.ensures k ∷ index_in (node_in v start.start).pointers c.args.i ∷ []))
    ∙ handed_on _ c.in_err-refuse_raw.field-0.0 c.from_residual-in_err-refuse_raw.ensures.1

pub returns-in_err-at-clause-refusal : goal.returns-in_err-at-clause-refusal
returns-in_err-at-clause-refusal c =
    let v = c.args.heap.now in
    let start = c.in_ok-start in
    fetch_left v start.start (heap_value v c.args.object) start.ensures.there start.ensures.value c.args.i
    ∙ (λ k. first (c.in_ok-refuse_raw.ensures k ∷ c.in_err-at.ensures.refusal k ∷ []))
    ∙ handed_on _ c.in_err-at.field-0.0 c.from_residual-in_err-at.ensures.1

pub returns-clause-refusal : goal.returns-clause-refusal
returns-clause-refusal c =
    let v = c.args.heap.now in
    let start = c.in_ok-start in
    fetch_left v start.start (heap_value v c.args.object) start.ensures.there start.ensures.value c.args.i
    ∙ (λ k. first (c.in_ok-refuse_raw.ensures k ∷ c.in_ok-at.ensures.refusal k ∷ []))

pub returns-clause-value : goal.returns-clause-value
returns-clause-value c =
    let v = c.args.heap.now in
    let start = c.in_ok-start in
    let index = c.in_ok-at.ensures.index in
    slot_value v start.start (heap_value v c.args.object) start.ensures.there start.ensures.value c.args.i c.in_ok-at.at (heap_value v 0) (heap_value v c.pointer.result) index.0 index.1 c.pointer.ensures.value
