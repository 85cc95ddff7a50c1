use Rattle.std.proofs.Common.{◌∙◌, eqb, sym}
use Rattle.std.specs.Bool.{beq}
use Rattle.spur_graph.specs.Heaps.{View}
use Rattle.spur_heap.proofs.SpotsAt.{places_alike}
use Rattle.spur_heap.proofs.heap.Heap.stays_in_place.Goals as goal

pub returns-then-has_overflow : goal.returns-then-has_overflow
returns-then-has_overflow c =
    let v : View = c.args.self.now in
    (λ i. eqb (c.max.ensures i) (c.max-then-has_overflow.ensures i))
    ∙ places_alike v c.whole.ensures.whole c.args.a c.args.b c.requires.first c.requires.second c.slot_count.result c.slot_count-then-has_overflow.result c.slot_count.ensures.slots c.slot_count-then-has_overflow.ensures.slots
    ((λ i. beq (sym c.has_overflow.ensures i) (sym c.has_overflow-2.ensures i)) ∙ c.if-has_overflow.true)
