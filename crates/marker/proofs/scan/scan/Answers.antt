use Rattle.std.proofs.Common.{◌≡◌, subst, arith}
use Rattle.marker.specs.Visits.{NamedBySlot, NamesBelow, Visits}
use Rattle.marker.proofs.Visiting.{visits_slot, visits_no_more}
use Rattle.marker.proofs.scan.scan.Goals as goal

pub slots-init : goal.slots-init
slots-init c = record { visits = visits_no_more (NamedBySlot c.args.heap.now c.args.start) c.args.heap.now }

pub slots-preserved : goal.slots-preserved
slots-preserved c = record {
  visits = visits_slot c.args.heap.now c.slots.heap c.visit.new.heap c.args.start c.slots.i c.pointer-word.result c.slots.invariant.visits c.pointer-word.ensures.value c.visit.ensures.visits;
}

pub returns : goal.returns
returns c =
    let e : c.slots.i ≡ c.args.count = omega (arith, c.slots-test.false, c.slots.auto.i-end) in
    record { visits = subst (λ k. Visits (NamesBelow c.args.heap.now c.args.start k) c.args.heap.now c.slots.heap) e c.slots.invariant.visits }
