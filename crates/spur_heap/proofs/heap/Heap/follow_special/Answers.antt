use Rattle.std.proofs.Common.{subst}
use Rattle.std.proofs.lemmas.Bool.{or_right}
use Rattle.spur_graph.specs.Value.{is_immediate_word}
use Rattle.spur_graph.specs.Ordinary.{is_good_reference}
use Rattle.spur_graph.specs.Heaps.{View, store_of}
use Rattle.spur_heap.specs.Parts.{view_of}
use Rattle.spur_heap.specs.Following.{Follows}
use Rattle.spur_heap.proofs.FollowedWords.{Settles, settles}
use Rattle.spur_heap.proofs.Puts.{whole_sound}
use Rattle.spur_heap.proofs.RootsFollowed.{special_follows}
use Rattle.spur_heap.proofs.heap.Heap.follow_special.Goals as goal

special_settles : (c : goal.After-self-1) → Settles (view_of c.self.inside.parts) c.self.inside.parts.special c.follow_word-self-inside.result
special_settles c =
    let v : View = view_of c.self.inside.parts in
    settles v (whole_sound v c.self.invariant.whole) v.special c.follow_word-self-inside.result (or_right (is_immediate_word v.special) (is_good_reference (store_of v) v.special) c.self.invariant.whole.special_there) c.follow_word-self-inside.ensures.followed

pub returns-clause-follows : goal.returns-clause-follows
returns-clause-follows c = subst (λ (v : View). Follows v (view_of (record c.self.inside.parts { special = c.follow_word-self-inside.result }))) c.self.view_is (special_follows (view_of c.self.inside.parts) c.follow_word-self-inside.result (special_settles c))

pub returns-clause-followed : goal.returns-clause-followed
returns-clause-followed c = (special_settles c).followed
