use Rattle.std.proofs.Common.{◌∙◌, ap, sym, subst}
use Rattle.spur_graph.specs.Value.{name_of}
use Rattle.spur_graph.specs.Heaps.{heap_value}
use Rattle.pinning.specs.Pins.{Pins}
use Rattle.pinning.proofs.Young.{young_plain}
use Rattle.pinning.proofs.Forwarding.{plain, keeps_class, keeps_mourner}
use Rattle.pinning.proofs.Pinned.{pins_here, pins_copy}
use Rattle.pinning.proofs.pins.pin.Goals as goal

pub returns-then-is_old-clause-pinned : goal.returns-then-is_old-clause-pinned
returns-then-is_old-clause-pinned c =
    let v = c.args.heap.now in
    let start = c.in_ok-start in
    pins_here v c.set_pinned.new.self start.start (heap_value v c.args.object) start.ensures.there start.ensures.value (sym c.is_old.ensures.room ∙ c.if-is_old.true)
    c.set_pinned.ensures.graph c.set_pinned.ensures.room c.whole.ensures.whole

pub forward_to-requires-clause-plain : goal.forward_to-requires-clause-plain
forward_to-requires-clause-plain c =
    let v = c.args.heap.now in
    let start = c.in_ok-start in
    let copy = c.in_ok-copy in
    plain v c.copy_to_old.new.heap c.set_pinned-2.new.self start.start copy.copy start.ensures.there copy.ensures.copied c.set_pinned-2.ensures.graph c.set_pinned-2.ensures.ordinary
    (young_plain v c.whole-2.ensures.whole start.start start.ensures.there (sym c.is_old.ensures.place ∙ c.if-is_old.false))

pub forward_to-requires-clause-class : goal.forward_to-requires-clause-class
forward_to-requires-clause-class c =
    let start = c.in_ok-start in
    let copy = c.in_ok-copy in
    keeps_class c.args.heap.now c.copy_to_old.new.heap c.set_pinned-2.new.self start.start copy.copy start.ensures.there copy.ensures.copied c.set_pinned-2.ensures.graph c.set_pinned-2.ensures.ordinary
    c.whole-2.ensures.closed

pub forward_to-requires-clause-mourner : goal.forward_to-requires-clause-mourner
forward_to-requires-clause-mourner c =
    let start = c.in_ok-start in
    let copy = c.in_ok-copy in
    keeps_mourner c.args.heap.now c.copy_to_old.new.heap c.set_pinned-2.new.self start.start copy.copy start.ensures.there copy.ensures.copied c.set_pinned-2.ensures.graph c.set_pinned-2.ensures.ordinary
    c.whole-2.ensures.closed

pub returns-clause-pinned : goal.returns-clause-pinned
returns-clause-pinned c =
    let v = c.args.heap.now in
    let start = c.in_ok-start in
    let copy = c.in_ok-copy in
    let pins : Pins v c.forward_to.new.self start.start =
    pins_copy v c.copy_to_old.new.heap c.set_pinned-2.new.self c.forward_to.new.self start.start copy.copy start.ensures.there copy.ensures.copied c.set_pinned-2.ensures.graph c.set_pinned-2.ensures.ordinary
    c.whole-2.ensures.closed (young_plain v c.whole-2.ensures.whole start.start start.ensures.there (sym c.is_old.ensures.place ∙ c.if-is_old.false))
    (sym c.is_old.ensures.room ∙ c.if-is_old.false) c.forward_to.ensures.graph c.set_pinned-2.ensures.room c.forward_to.ensures.room c.whole-3.ensures.whole in
    subst (λ a. Pins v c.forward_to.new.self a) (sym (ap name_of start.ensures.value)) pins
