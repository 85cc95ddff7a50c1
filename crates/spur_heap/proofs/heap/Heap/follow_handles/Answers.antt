use Rattle.std.proofs.Common.{◌≡◌, ℕ, List, length, slice_index, ap, refl, sym, subst, arith}
use Rattle.spur_graph.specs.Graph.{Handle}
use Rattle.spur_graph.specs.Heaps.{View}
use Rattle.spur_heap.specs.declared.heap.HeapParts.{HeapParts}
use Rattle.spur_heap.specs.Parts.{view_of, ArePartsOfHeap}
use Rattle.spur_heap.specs.Views.{IsGood}
use Rattle.spur_heap.specs.Following.{Follows, IsFollowedHandle, followed_held}
use Rattle.spur_heap.proofs.Bindings.{with_handles}
use Rattle.spur_heap.proofs.Puts.{whole_sound}
use Rattle.spur_heap.proofs.RootsFollowed.{held_then, handle_followed, handles_follow}
use Rattle.spur_heap.proofs.heap.Heap.follow_handles.Goals as goal

module _ (p q : HeapParts) (k : ArePartsOfHeap p) (is : q ≡ record p { handles = followed_held (view_of p) p.handles }) where
  parts : ArePartsOfHeap q
  parts = subst (λ (r : HeapParts). ArePartsOfHeap r) (sym is) (with_handles p k (followed_held (view_of p) p.handles) (held_then (view_of p) (whole_sound (view_of p) k.whole) p.handles refl k.whole.held))

  follows : Follows (view_of p) (view_of q)
  follows = subst (λ (r : HeapParts). Follows (view_of p) (view_of r)) (sym is) (handles_follow (view_of p) (whole_sound (view_of p) k.whole) p.handles refl k.whole.held)

  followed : (h : Handle) → IsFollowedHandle (view_of q) h
  followed h = subst (λ (r : HeapParts). IsFollowedHandle (view_of r) h) (sym is) (handle_followed (view_of p) (whole_sound (view_of p) k.whole) p.handles refl k.whole.held h)

pub follow_held-requires-clause-good : goal.follow_held-requires-clause-good
follow_held-requires-clause-good c i within =
    let read : c.words-words.result.now ≡ c.self.inside.parts.handles.words = c.words-words.ensures.words in
    let long : length c.words-words.result.now ≡ length c.self.inside.parts.handles.words = ap length read in
    let a = c.words-words.ensures.each i (omega (arith, within, long)) in
    subst (λ (ws : List ℕ). IsGood (view_of c.self.inside.parts) (slice_index ws i)) read (c.self.invariant.whole.held a.0 (slice_index c.words-words.result.now i) a.1)

pub invariant_of-self : goal.invariant_of-self
invariant_of-self c = parts c.self.inside.parts c.follow_held.new.parts c.self.invariant c.follow_held.ensures

pub returns-clause-follows : goal.returns-clause-follows
returns-clause-follows c = subst (λ (v : View). Follows v (view_of c.follow_held.new.parts)) c.self.view_is (follows c.self.inside.parts c.follow_held.new.parts c.self.invariant c.follow_held.ensures)

pub returns-clause-followed : goal.returns-clause-followed
returns-clause-followed c h = followed c.self.inside.parts c.follow_held.new.parts c.self.invariant c.follow_held.ensures h
