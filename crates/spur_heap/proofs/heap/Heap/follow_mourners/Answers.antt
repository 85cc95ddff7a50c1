use Rattle.std.proofs.Common.{sym, subst}
use Rattle.spur_graph.specs.Heaps.{View}
use Rattle.spur_heap.specs.Parts.{view_of}
use Rattle.spur_heap.specs.Following.{Follows, IsFollowedMourner}
use Rattle.spur_heap.proofs.MournersFollowed.{mourner_followed, mourners_follow, seen, followed_parts}
use Rattle.spur_heap.proofs.heap.Heap.follow_mourners.Goals as goal

pub invariant_of-self : goal.invariant_of-self
invariant_of-self c = followed_parts c.self.inside.parts c.follow_entries.new.parts c.self.invariant c.follow_entries.ensures

pub returns-clause-follows : goal.returns-clause-follows
returns-clause-follows c =
    let v : View = view_of c.self.inside.parts in
    subst (λ (u : View). Follows u (view_of c.follow_entries.new.parts)) c.self.view_is
    (subst (λ (u : View). Follows v u) (sym (seen c.self.inside.parts c.follow_entries.new.parts c.self.invariant c.follow_entries.ensures)) (mourners_follow v c.self.invariant.whole.mourners))

pub returns-clause-followed : goal.returns-clause-followed
returns-clause-followed c k =
    subst (λ (u : View). IsFollowedMourner u k) (sym (seen c.self.inside.parts c.follow_entries.new.parts c.self.invariant c.follow_entries.ensures)) (mourner_followed (view_of c.self.inside.parts) c.self.invariant.whole.mourners k)
