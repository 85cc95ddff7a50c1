use Rattle.std.proofs.Common.{arith}
use Rattle.std.proofs.lemmas.Result.{on_ok_weaker}
use Rattle.heap_cells.proofs.References.{ordinary_apart}
use Rattle.image_settle.proofs.Slots.{count_fits, loose, slots_written}
use Rattle.image_settle.proofs.Values.{not_free, not_moved, least_here}
use Rattle.image_settle.proofs.object.settle_object.Goals as goal

pub overflow_add-to : goal.overflow_add-to
overflow_add-to g c =
    let n = c.requires.1.1.0 in
    let o = c.requires.1.1.1.0 in
    omega (arith, count_fits n (not_free n o) (not_moved n o) c.pointer_slots.result c.pointer_slots.ensures, n.fits, c.requires.0.small, c.requires.1.0.names)

pub settle_values-requires : goal.settle_values-requires
settle_values-requires g c =
    let n = c.requires.1.1.0 in
    let o = c.requires.1.1.1.0 in
    let k = count_fits n (not_free n o) (not_moved n o) c.pointer_slots.result c.pointer_slots.ensures in
    (c.requires.0, (c.requires.1.0, (omega arith, (omega (arith, k, n.fits), λ j l m. loose n (not_free n o) (not_moved n o) j (omega arith) (omega (arith, k))))))

pub returns-clause-least : goal.returns-clause-least
returns-clause-least g c = least_here c.requires.1.1.0 c.requires.1.1.1.0 c.requires.1.1.1.1 c.pointer_slots.result c.pointer_slots.ensures c.settle_values.result c.settle_values.ensures.least

pub returns-clause-slots : goal.returns-clause-slots
returns-clause-slots g c =
    let n = c.requires.1.1.0 in
    let o = c.requires.1.1.1.0 in
    let apart = ordinary_apart g.h c.args.span.start o in
    on_ok_weaker c.settle_values.result (λ followed. slots_written n (not_free n o) (not_moved n o) apart.0 apart.1 c.pointer_slots.result c.pointer_slots.ensures
    c.settle_values.new.words followed c.settle_values.ensures.behind) c.settle_values.ensures.followed

pub returns-clause-behind : goal.returns-clause-behind
returns-clause-behind g c j l =
    let n = c.requires.1.1.0 in
    let o = c.requires.1.1.1.0 in
    c.settle_values.ensures.behind j (omega (arith, count_fits n (not_free n o) (not_moved n o) c.pointer_slots.result c.pointer_slots.ensures))
