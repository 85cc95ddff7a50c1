use Rattle.std.proofs.Common.{ap, length, arith}
use Rattle.spur_graph.specs.Heaps.{View, IsWhole, waiting_in}
use Rattle.marker.proofs.FiredHeaps.{fires_long}
use Rattle.marker.proofs.Rounding.{few_waiting, fired_room, fired_stack, fired_waiting, firing_ended, firing_gathered, firing_more}
use Rattle.marker.proofs.rounds.fire_in_rounds.Goals as goal

pub rounds-init : goal.rounds-init
rounds-init c = record { firing = firing_gathered c.args.heap.now c.gather_dying.new.heap c.gather_dying.ensures.gathers c.whole.ensures.whole c.requires.exact }

pub returns-then-count-eq0 : goal.returns-then-count-eq0
returns-then-count-eq0 c = record {
  rounds = firing_ended c.args.heap.now c.rounds.fired c.rounds.heap c.rounds.invariant.firing c.fire_round-count.result c.fire_round-count.new.heap c.fire_round-count.ensures.fires c.if-count-eq0.true c.requires.empty c.clear_stack.new.self c.clear_stack.ensures;
}

pub complete-requires-clause-room : goal.complete-requires-clause-room
complete-requires-clause-room c = fired_room c.args.heap.now c.rounds.fired c.rounds.heap c.rounds.invariant.firing c.fire_round-count.result c.fire_round-count.new.heap c.fire_round-count.ensures.fires

pub complete-requires-clause-stack : goal.complete-requires-clause-stack
complete-requires-clause-stack c = fired_stack c.args.heap.now c.rounds.fired c.rounds.heap c.rounds.invariant.firing c.fire_round-count.result c.fire_round-count.new.heap c.fire_round-count.ensures.fires

pub overflow_add-fired : goal.overflow_add-fired
overflow_add-fired c =
    let whole : IsWhole c.fire_round-count.new.heap = c.whole-in-rounds.ensures.whole in
    let few = few_waiting c.fire_round-count.new.heap whole in
    let more = fired_waiting c.args.heap.now c.rounds.fired c.rounds.heap c.rounds.invariant.firing c.fire_round-count.result c.fire_round-count.new.heap c.fire_round-count.ensures.fires in
    omega (arith, few, more, whole.few, c.rounds.invariant.firing.waiting)

pub rounds-smaller : goal.rounds-smaller
rounds-smaller c =
    let few = few_waiting c.fire_round-count.new.heap c.whole-in-rounds.ensures.whole in
    let more = fired_waiting c.args.heap.now c.rounds.fired c.rounds.heap c.rounds.invariant.firing c.fire_round-count.result c.fire_round-count.new.heap c.fire_round-count.ensures.fires in
    let long = fires_long (length c.rounds.heap.stack) c.rounds.heap c.fire_round-count.result c.fire_round-count.new.heap c.fire_round-count.ensures.fires in
    let same = ap (λ (v : View). length (waiting_in v.mourners)) c.complete.ensures.works.keeps.rest in
    omega (arith, few, more, long, same, c.rounds.invariant.firing.long, c.if-count-eq0.false)

pub rounds-preserved : goal.rounds-preserved
rounds-preserved c = record {
  firing = firing_more c.args.heap.now c.rounds.fired c.rounds.heap c.rounds.invariant.firing c.fire_round-count.result c.fire_round-count.new.heap c.fire_round-count.ensures.fires c.if-count-eq0.false
      c.complete.new.heap c.complete.ensures.works c.complete.ensures.all;
}
