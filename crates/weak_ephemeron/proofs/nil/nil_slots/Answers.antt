use Rattle.std.proofs.Common.{◌≡◌, ◌+◌, ◌<◌, ℕ, suc, cond, length, refl, sym, ap, ◌∙◌, arith}
use Rattle.spur_graph.specs.Rounds.{names_dead}
use Rattle.spur_graph.specs.Heaps.{heap_value}
use Rattle.spur_heap.specs.MarkBits.{marks}
use Rattle.spur_heap.specs.Views.{node_in}
use Rattle.weak_ephemeron.specs.Steps.{slot_value}
use Rattle.weak_ephemeron.proofs.Nilling.{below_none, below_length, below_more, value_then, stays_dead, nils_all, count_all}
use Rattle.weak_ephemeron.proofs.Turning.{counted, counted_none, counted_more, counted_most, one_or_none}
use Rattle.weak_ephemeron.proofs.nil.nil_slots.Goals as goal

pub slots-init : goal.slots-init
slots-init c = record {
  from = omega arith;
  nils = below_none c.args.start c.strong_count-strong.result c.args.heap.now;
  count = sym (counted_none (names_dead (marks c.args.heap.now)) (heap_value c.args.heap.now 0) c.strong_count-strong.result (node_in c.args.heap.now c.args.start).pointers);
  idle = λ e. refl;
}

pub nil_slot-nilled-requires-clause-within : goal.nil_slot-nilled-requires-clause-within
nil_slot-nilled-requires-clause-within c =
    let long = below_length c.args.start c.strong_count-strong.result c.args.heap.now c.slots.i c.slots.heap c.slots.invariant.nils in
    omega (arith, long, c.pointer_count-count.ensures, c.slots-test.true)

pub overflow_add-nilled : goal.overflow_add-nilled
overflow_add-nilled c =
    let most = counted_most (names_dead (marks c.args.heap.now)) (heap_value c.args.heap.now 0) c.strong_count-strong.result c.slots.i (node_in c.args.heap.now c.args.start).pointers in
    let one = one_or_none (names_dead (marks c.slots.heap) (slot_value c.slots.heap c.args.start c.slots.i)) in
    omega (arith, most, one, c.slots.invariant.count, c.nil_slot-nilled.ensures.count, c.slots-test.true, c.pointer_count-count.type_inv)

pub slots-preserved : goal.slots-preserved
slots-preserved c =
    let low : c.slots.i < length (node_in c.args.heap.now c.args.start).pointers = omega (arith, c.pointer_count-count.ensures, c.slots-test.true) in
    let p = names_dead (marks c.args.heap.now) in
    let same : c.nil_slot-nilled.result ≡ cond (p (slot_value c.args.heap.now c.args.start c.slots.i)) 1 0 =
    c.nil_slot-nilled.ensures.count
    ∙ ap (λ b. cond b 1 0) (stays_dead c.slots.invariant.nils.stays (slot_value c.slots.heap c.args.start c.slots.i) ∙ ap p (value_then c.args.start c.strong_count-strong.result c.args.heap.now c.slots.i c.slots.heap c.slots.invariant.nils)) in
    let more = counted_more p (heap_value c.args.heap.now 0) c.strong_count-strong.result c.slots.i (node_in c.args.heap.now c.args.start).pointers c.slots.invariant.from low in
    let next : c.slots.i + 1 ≡ suc c.slots.i = omega arith in
    record {
      from = omega (arith, c.slots.invariant.from);
      nils = below_more c.args.start c.strong_count-strong.result c.args.heap.now c.slots.i c.slots.heap c.nil_slot-nilled.new.heap c.slots.invariant.nils c.slots.invariant.from low c.nil_slot-nilled.ensures.nils;
      count = (λ y. c.slots.invariant.count y + same y) ∙ sym more ∙ ap (λ n. counted p c.strong_count-strong.result n (node_in c.args.heap.now c.args.start).pointers) (sym next);
      idle = λ e. c.nil_slot-nilled.ensures.idle (omega (arith, e)) ∙ c.slots.invariant.idle (omega (arith, e));
    }

pub returns-clause-nils : goal.returns-clause-nils
returns-clause-nils c =
    nils_all c.args.start c.args.heap.now c.requires.weak c.strong_count-strong.result c.slots.i c.slots.heap c.strong_count-strong.ensures (omega (arith, c.slots-test.false, c.slots.auto.i-end, c.pointer_count-count.ensures)) c.slots.invariant.nils

pub returns-clause-count : goal.returns-clause-count
returns-clause-count c =
    count_all c.args.start c.args.heap.now c.requires.weak c.strong_count-strong.result c.slots.i c.slots.nilled c.strong_count-strong.ensures (omega (arith, c.slots-test.false, c.slots.auto.i-end, c.pointer_count-count.ensures)) c.slots.invariant.count
