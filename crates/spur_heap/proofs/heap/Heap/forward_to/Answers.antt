use Rattle.std.proofs.Common.{◌≡◌, true, ap, sym, ◌∙◌, subst, arith}
use Rattle.spur_graph.specs.Heaps.{View, IsWhole, heap_value, heap_graph, heap_room}
use Rattle.spur_heap.specs.Views.{IsOrdinary, IsGood}
use Rattle.spur_heap.specs.declared.heap.HeapParts.{HeapParts}
use Rattle.spur_heap.specs.Forwarders.{led_to}
use Rattle.spur_heap.specs.Parts.{view_of}
use Rattle.spur_heap.proofs.Forwardable.{CanLead}
use Rattle.spur_heap.proofs.LedTo.{from_can, from_inside, to_small, some_objects, then, seen, led_parts, led_to_graph, led_to_room, led_to_value, led_to_good, led_to_ordinary}
use Rattle.spur_heap.proofs.heap.Heap.forward_to.Goals as goal

pub lead_to-requires-clause-can : goal.lead_to-requires-clause-can
lead_to-requires-clause-can c =
    let can : CanLead c.args.self.now c.args.from c.args.to = record { from = c.requires.there; to = c.requires.other; apart = c.requires.apart; plain = c.requires.plain; class = c.requires.class; mourner = c.requires.mourner } in
    from_can c.self.inside.parts c.self.invariant c.args.self.now c.self.view_is c.args.from c.args.to can

pub lead_to-requires-clause-inside : goal.lead_to-requires-clause-inside
lead_to-requires-clause-inside c =
    let can : CanLead c.args.self.now c.args.from c.args.to = record { from = c.requires.there; to = c.requires.other; apart = c.requires.apart; plain = c.requires.plain; class = c.requires.class; mourner = c.requires.mourner } in
    from_inside c.self.inside.parts c.self.invariant c.args.self.now c.self.view_is c.args.from c.args.to can

pub lead_to-requires-clause-small : goal.lead_to-requires-clause-small
lead_to-requires-clause-small c =
    let can : CanLead c.args.self.now c.args.from c.args.to = record { from = c.requires.there; to = c.requires.other; apart = c.requires.apart; plain = c.requires.plain; class = c.requires.class; mourner = c.requires.mourner } in
    to_small c.self.inside.parts c.self.invariant c.args.self.now c.self.view_is c.args.from c.args.to can

pub overflow_sub-self : goal.overflow_sub-self
overflow_sub-self c =
    let can : CanLead c.args.self.now c.args.from c.args.to = record { from = c.requires.there; to = c.requires.other; apart = c.requires.apart; plain = c.requires.plain; class = c.requires.class; mourner = c.requires.mourner } in
    let some = some_objects c.self.inside.parts c.self.invariant c.args.self.now c.self.view_is c.args.from c.args.to can in
    let same : c.lead_to.new.parts.objects ≡ c.self.inside.parts.objects = ap (λ (p : HeapParts). p.objects) c.lead_to.ensures in
    omega (arith, some, same)

-- the call can be made, and the heap is whole
can_of : (c : goal.After-self-2-1) → CanLead c.args.self.now c.args.from c.args.to
can_of c = record { from = c.requires.there; to = c.requires.other; apart = c.requires.apart; plain = c.requires.plain; class = c.requires.class; mourner = c.requires.mourner }

whole_of : (c : goal.After-self-2-1) → IsWhole c.args.self.now
whole_of c = subst (λ (v : View). IsWhole v) c.self.view_is c.self.invariant.whole

-- what is seen of the parts then
seen_of : (c : goal.After-self-2-1) → view_of (then c.self.inside.parts c.self.invariant c.args.self.now c.self.view_is c.args.from c.args.to (can_of c) c.lead_to.new.parts c.lead_to.ensures true) ≡ led_to c.args.self.now c.args.from c.args.to
seen_of c = seen c.self.inside.parts c.self.invariant c.args.self.now c.self.view_is c.args.from c.args.to (can_of c) c.lead_to.new.parts c.lead_to.ensures true

pub invariant_of-self : goal.invariant_of-self
invariant_of-self c = led_parts c.self.inside.parts c.self.invariant c.args.self.now c.self.view_is c.args.from c.args.to (can_of c) c.lead_to.new.parts c.lead_to.ensures true

pub returns-clause-graph : goal.returns-clause-graph
returns-clause-graph c = ap heap_graph (seen_of c) ∙ led_to_graph c.args.self.now (whole_of c) c.args.from c.args.to (can_of c)

pub returns-clause-room : goal.returns-clause-room
returns-clause-room c = ap heap_room (seen_of c) ∙ led_to_room c.args.self.now (whole_of c) c.args.from c.args.to (can_of c)

pub returns-clause-values : goal.returns-clause-values
returns-clause-values c w = ap (λ (v : View). heap_value v w) (seen_of c) ∙ led_to_value c.args.self.now (whole_of c) c.args.from c.args.to (can_of c) w

pub returns-clause-goods : goal.returns-clause-goods
returns-clause-goods c w good = subst (λ (v : View). IsGood v w) (sym (seen_of c)) (led_to_good c.args.self.now (whole_of c) c.args.from c.args.to (can_of c) w good)

pub returns-clause-ordinary : goal.returns-clause-ordinary
returns-clause-ordinary c s n on = subst (λ (v : View). IsOrdinary v s) (sym (seen_of c)) (led_to_ordinary c.args.self.now (whole_of c) c.args.from c.args.to (can_of c) s n on)
