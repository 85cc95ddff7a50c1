use Rattle.std.proofs.Common.{arith}
use Rattle.spur_heap.proofs.Starting.{start_below}
use Rattle.marker.proofs.FollowedHeaps.{below_none, below_more, below_all}
use Rattle.marker.proofs.follow.follow_objects.Goals as goal

pub starts-init : goal.starts-init
starts-init c = record { follows = below_none c.args.heap.now }

pub overflow_add-at : goal.overflow_add-at
overflow_add-at c =
    let low = start_below c.starts.heap c.whole.ensures.whole c.in-Some.start c.in-Some.ensures.found.1 in
    let few = c.whole.ensures.whole.few in
    omega (arith, low, few)

pub starts-smaller : goal.starts-smaller
starts-smaller c =
    let low = start_below c.starts.heap c.whole.ensures.whole c.in-Some.start c.in-Some.ensures.found.1 in
    let long = c.starts.invariant.follows.follows.long in
    let from = c.in-Some.ensures.found.0 in
    omega (arith, low, long, from)

pub starts-preserved : goal.starts-preserved
starts-preserved c = record {
  follows = below_more c.starts.at c.in-Some.start c.args.heap.now c.starts.heap c.follow_marked.new.heap c.starts.invariant.follows c.in-Some.ensures.found.0 c.in-Some.ensures.first c.follow_marked.ensures.follows c.follow_marked.ensures.slots;
}

pub returns : goal.returns
returns c = record { follows = λ i. below_all c.starts.at i c.args.heap.now c.starts.heap c.starts.invariant.follows c.in_default.ensures.none }
