use Rattle.std.proofs.Common.{length, ◌∙◌, sym, ap, subst, arith, inl, inr}
use Rattle.std.proofs.lemmas.Bool.{cases_eq}
use Rattle.spur_graph.specs.Node.{Node}
use Rattle.spur_heap.specs.Following.{IsFollowedSlot}
use Rattle.spur_heap.proofs.FollowedWords.{follows_same, follows_then}
use Rattle.marker.proofs.follow.follow_slots.Goals as goal

pub slots-init : goal.slots-init
slots-init c = record { follows = follows_same c.args.heap.now; slots = λ k l. absurd (omega (arith, l)) }

pub follow_pointer-requires-clause-there : goal.follow_pointer-requires-clause-there
follow_pointer-requires-clause-there c = c.slots.invariant.follows.ordinary c.args.start ∙ c.requires.there

pub follow_pointer-requires-clause-within : goal.follow_pointer-requires-clause-within
follow_pointer-requires-clause-within c =
    let same = ap (λ (n : Node). length n.pointers) (c.slots.invariant.follows.nodes c.args.start) in
    omega (arith, same, c.slots-test.true, c.pointer_count-i-end.ensures)

pub slots-preserved : goal.slots-preserved
slots-preserved c = record {
  follows = follows_then c.args.heap.now c.slots.heap c.follow_pointer.new.self c.slots.invariant.follows c.follow_pointer.ensures.follows;
  slots = λ k l. elim (cases_eq k c.slots.i) [
    | inl e ↦ subst (λ j. IsFollowedSlot c.follow_pointer.new.self c.args.start j) (sym e) c.follow_pointer.ensures.followed
    | inr n ↦ c.follow_pointer.ensures.follows.slots c.args.start k (c.slots.invariant.slots k (omega (arith, l, n)))
  ];
}

pub returns-clause-slots : goal.returns-clause-slots
returns-clause-slots c k l =
    let same = ap (λ (n : Node). length n.pointers) (c.slots.invariant.follows.nodes c.args.start) in
    c.slots.invariant.slots k (omega (arith, l, same, c.slots-test.false, c.pointer_count-i-end.ensures))
