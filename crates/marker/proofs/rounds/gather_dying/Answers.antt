use Rattle.std.proofs.Common.{arith}
use Rattle.spur_heap.proofs.Starting.{start_below}
use Rattle.marker.proofs.Gathering.{gathers_every, gathers_long, gathers_more, gathers_none, gathers_room}
use Rattle.marker.proofs.rounds.gather_dying.Goals as goal

pub starts-init : goal.starts-init
starts-init c = record { gathers = gathers_none c.args.heap.now c.requires.empty }

pub gather-requires-clause-room : goal.gather-requires-clause-room
gather-requires-clause-room c = gathers_room c.starts.at c.args.heap.now c.starts.heap c.starts.invariant.gathers c.whole.ensures.whole c.in-Some.start c.in-Some.ensures.found.0

pub overflow_add-at : goal.overflow_add-at
overflow_add-at c =
    let low = start_below c.starts.heap c.whole.ensures.whole c.in-Some.start c.in-Some.ensures.found.1 in
    let few = c.whole.ensures.whole.few in
    omega (arith, low, few)

pub starts-smaller : goal.starts-smaller
starts-smaller c =
    let low = start_below c.starts.heap c.whole.ensures.whole c.in-Some.start c.in-Some.ensures.found.1 in
    let long = gathers_long c.starts.at c.args.heap.now c.starts.heap c.starts.invariant.gathers in
    let from = c.in-Some.ensures.found.0 in
    omega (arith, low, long, from)

pub starts-preserved : goal.starts-preserved
starts-preserved c = record {
  gathers = gathers_more c.starts.at c.args.heap.now c.starts.heap c.starts.invariant.gathers c.in-Some.start c.in-Some.ensures.found.0 c.in-Some.ensures.first c.gather.new.heap c.gather.ensures.skips c.gather.ensures.puts;
}

pub returns : goal.returns
returns c = record { gathers = gathers_every c.starts.at c.args.heap.now c.starts.heap c.starts.invariant.gathers c.whole-2.ensures.whole c.in_default.ensures.none }
