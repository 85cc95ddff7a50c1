use Rattle.std.proofs.Common.{◌≡◌, sym, ap, ◌∙◌, subst}
use Rattle.spur_graph.specs.Heaps.{View, Whole, chunks_of, store_of, heap_graph, heap_room}
use Rattle.spur_heap.specs.declared.heap.HeapParts.{HeapParts}
use Rattle.spur_heap.specs.declared.heap.Phase.TheVariants as codes
use Rattle.spur_heap.specs.Parts.{view_of, ArePartsOfHeap}
use Rattle.spur_heap.specs.MarkBits.{Unmarks}
use Rattle.spur_heap.proofs.Unmarked.{unmarked_parts, unmarked_store, unmarked_graph, unmarked_room}
use Rattle.spur_heap.proofs.heap.Heap.clear_marks.Goals as goal

pub invariant_of-self : goal.invariant_of-self
invariant_of-self c =
    let new = c.clear_rows.new.parts.region in
    subst (λ (p : HeapParts). ArePartsOfHeap (record p { region = new; phase = codes.Whole })) (sym c.clear_rows.ensures.rest)
    (unmarked_parts c.self.inside.parts c.self.invariant new c.clear_rows.ensures.unmarks)

-- what is seen of the parts then
seen : (c : goal.After-self-1) → view_of (record c.clear_rows.new.parts { phase = codes.Whole }) ≡ record (view_of c.self.inside.parts) { words = c.clear_rows.new.parts.region; phase = Whole }
seen c = ap (λ (p : HeapParts). view_of (record p { phase = codes.Whole })) c.clear_rows.ensures.rest

pub returns-clause-store : goal.returns-clause-store
returns-clause-store c = ap store_of (seen c) ∙ unmarked_store c.self.inside.parts c.self.invariant c.clear_rows.new.parts.region c.clear_rows.ensures.unmarks ∙ ap store_of c.self.view_is

pub returns-clause-graph : goal.returns-clause-graph
returns-clause-graph c = ap heap_graph (seen c) ∙ unmarked_graph c.self.inside.parts c.self.invariant c.clear_rows.new.parts.region c.clear_rows.ensures.unmarks ∙ ap heap_graph c.self.view_is

pub returns-clause-room : goal.returns-clause-room
returns-clause-room c = ap heap_room (seen c) ∙ unmarked_room c.self.inside.parts c.self.invariant c.clear_rows.new.parts.region c.clear_rows.ensures.unmarks ∙ ap heap_room c.self.view_is

-- the same words were seen at the beginning
unmarks : (c : goal.After-self-1) → Unmarks c.args.self.now.words c.clear_rows.new.parts.region (chunks_of c.args.self.now)
unmarks c = subst (λ (v : View). Unmarks v.words c.clear_rows.new.parts.region (chunks_of v)) c.self.view_is c.clear_rows.ensures.unmarks

pub returns-clause-headers : goal.returns-clause-headers
returns-clause-headers c = (unmarks c).headers

pub returns-clause-others : goal.returns-clause-others
returns-clause-others c = (unmarks c).others
