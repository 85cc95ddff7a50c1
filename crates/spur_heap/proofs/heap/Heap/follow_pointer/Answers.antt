use Rattle.std.proofs.Common.{sym, subst}
use Rattle.spur_graph.specs.Heaps.{View, IsWhole}
use Rattle.spur_heap.specs.Following.{Follows, IsFollowedSlot}
use Rattle.spur_heap.proofs.FollowedWords.{follows_same}
use Rattle.spur_heap.proofs.SlotFollowed.{follows_slot, slot_followed}
use Rattle.spur_heap.proofs.PointerFollowed.{no_literals, another, result_followed, slot_stays}
use Rattle.spur_heap.proofs.heap.Heap.follow_pointer.Goals as goal

pub put_pointer-requires-clause-no_literals : goal.put_pointer-requires-clause-no_literals
put_pointer-requires-clause-no_literals c =
    no_literals c.args.self.now c.whole.ensures.whole c.args.start c.requires.there c.args.i c.requires.within c.pointer-word.result c.follow-to.result c.pointer-word.ensures.word c.follow-to.ensures.followed c.if-to-word.true

pub returns-then-to-word : goal.returns-then-to-word
returns-then-to-word c =
    let v : View = c.args.self.now in
    let whole : IsWhole v = c.whole.ensures.whole in
    let other = another v whole c.args.start c.requires.there c.args.i c.requires.within c.pointer-word.result c.follow-to.result c.pointer-word.ensures.word c.follow-to.ensures.followed c.if-to-word.true in
    let followed = result_followed v whole c.args.start c.requires.there c.args.i c.requires.within c.pointer-word.result c.follow-to.result c.pointer-word.ensures.word c.follow-to.ensures.followed in
    record {
      follows = subst (λ (u : View). Follows v u) (sym c.put_pointer.ensures.written) (follows_slot v whole c.args.start c.args.i c.follow-to.result other followed);
      followed = subst (λ (u : View). IsFollowedSlot u c.args.start c.args.i) (sym c.put_pointer.ensures.written) (slot_followed v whole c.args.start c.args.i c.follow-to.result other followed);
    }

pub returns-else-to-word : goal.returns-else-to-word
returns-else-to-word c = record {
  follows = follows_same c.args.self.now;
  followed = slot_stays c.args.self.now c.whole.ensures.whole c.args.start c.requires.there c.args.i c.requires.within c.pointer-word.result c.follow-to.result c.pointer-word.ensures.word c.follow-to.ensures.followed c.if-to-word.false;
}
