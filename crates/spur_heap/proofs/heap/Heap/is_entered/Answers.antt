use Rattle.std.proofs.Common.{◌∙◌, ◌&&◌, eqb, not, sym, ap}
use Rattle.std.proofs.lemmas.Bool.{eq-eqb, ne_eqb}
use Rattle.std.specs.FinMap.{get}
use Rattle.spur_graph.specs.Heaps.{heap_graph}
use Rattle.spur_graph.specs.Instances.{is_entry}
use Rattle.spur_heap.proofs.ClassTold.{entered_by}
use Rattle.spur_heap.proofs.heap.Heap.is_entered.Goals as goal

pub returns-then-hash-ne0 : goal.returns-then-hash-ne0
returns-then-hash-ne0 c =
    let v = c.args.self.now in
    let hash = c.hash-hash.result in
    entered_by v c.args.start hash c.has_at.result c.requires.there (c.hash-hash.ensures.value ∙ c.header.ensures.hash)
    (c.has_at.ensures ∙ sym (ap (λ b. not b && is_entry c.args.start (get (heap_graph v).classes hash)) (ne_eqb hash 0 c.if-hash-ne0.true)))

pub returns-else-hash-ne0 : goal.returns-else-hash-ne0
returns-else-hash-ne0 c =
    let v = c.args.self.now in
    let hash = c.hash-hash.result in
    let none = eq-eqb hash 0 c.if-hash-ne0.false in
    entered_by v c.args.start hash (not (eqb hash 0)) c.requires.there (c.hash-hash.ensures.value ∙ c.header.ensures.hash)
    (ap not none ∙ sym (ap (λ b. not b && is_entry c.args.start (get (heap_graph v).classes hash)) none))
