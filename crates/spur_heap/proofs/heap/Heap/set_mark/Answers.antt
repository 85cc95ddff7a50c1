use Rattle.std.proofs.Common.{◌≡◌, ◌<◌, refl, ap, sym, ◌∙◌, subst, length, set, get_or}
use Rattle.spur_graph.specs.Heaps.{View, IsWhole, store_of, heap_graph, heap_room, is_marked}
use Rattle.spur_heap.specs.Parts.{view_of}
use Rattle.spur_heap.specs.MarkBits.{with_mark, marked}
use Rattle.spur_heap.proofs.Marking.{mark_inside, marked_parts, marked_seen, marked_store, marked_graph, marked_room, mark_here, mark_others}
use Rattle.spur_heap.proofs.heap.Heap.set_mark.Goals as goal

pub get-requires : goal.get-requires
get-requires c =
    let whole : IsWhole c.args.self.now = subst (λ (v : View). IsWhole v) c.self.view_is c.self.invariant.whole in
    subst (λ (v : View). c.args.start < length v.words) (sym c.self.view_is) (mark_inside c.args.self.now whole c.args.start c.requires.there)

pub put-requires : goal.put-requires
put-requires c =
    let whole : IsWhole c.args.self.now = subst (λ (v : View). IsWhole v) c.self.view_is c.self.invariant.whole in
    subst (λ (v : View). c.args.start < length v.words) (sym c.self.view_is) (mark_inside c.args.self.now whole c.args.start c.requires.there)

-- what is seen then
seen : (c : goal.After-put) → view_of (record c.self.inside.parts { region = c.put.new.self }) ≡ marked c.args.self.now c.args.start
seen c =
    let new : c.put.new.self ≡ set c.self.inside.parts.region c.args.start (with_mark (get_or c.self.inside.parts.region c.args.start 0)) = rw (c.put.ensures, c.set_marked.ensures.word, c.get.ensures) refl in
    marked_seen c.self.inside.parts c.args.self.now c.self.view_is c.args.start c.put.new.self new

pub invariant_of-self : goal.invariant_of-self
invariant_of-self c =
    let whole : IsWhole c.args.self.now = subst (λ (v : View). IsWhole v) c.self.view_is c.self.invariant.whole in
    let new : c.put.new.self ≡ set c.self.inside.parts.region c.args.start (with_mark (get_or c.self.inside.parts.region c.args.start 0)) = rw (c.put.ensures, c.set_marked.ensures.word, c.get.ensures) refl in
    marked_parts c.self.inside.parts c.self.invariant c.args.self.now c.self.view_is whole c.args.start c.requires.there c.requires.phase c.put.new.self new

pub returns-clause-written : goal.returns-clause-written
returns-clause-written c = seen c

pub returns-clause-store : goal.returns-clause-store
returns-clause-store c =
    let whole : IsWhole c.args.self.now = subst (λ (v : View). IsWhole v) c.self.view_is c.self.invariant.whole in
    ap store_of (seen c) ∙ marked_store c.args.self.now whole c.args.start c.requires.there

pub returns-clause-graph : goal.returns-clause-graph
returns-clause-graph c =
    let whole : IsWhole c.args.self.now = subst (λ (v : View). IsWhole v) c.self.view_is c.self.invariant.whole in
    ap heap_graph (seen c) ∙ marked_graph c.args.self.now whole c.args.start c.requires.there

pub returns-clause-room : goal.returns-clause-room
returns-clause-room c =
    let whole : IsWhole c.args.self.now = subst (λ (v : View). IsWhole v) c.self.view_is c.self.invariant.whole in
    ap heap_room (seen c) ∙ marked_room c.args.self.now whole c.args.start c.requires.there

pub returns-clause-here : goal.returns-clause-here
returns-clause-here c =
    let whole : IsWhole c.args.self.now = subst (λ (v : View). IsWhole v) c.self.view_is c.self.invariant.whole in
    ap (λ (v : View). is_marked v.words c.args.start) (seen c) ∙ mark_here c.args.self.now whole c.args.start c.requires.there

pub returns-clause-others : goal.returns-clause-others
returns-clause-others c s n =
    let whole : IsWhole c.args.self.now = subst (λ (v : View). IsWhole v) c.self.view_is c.self.invariant.whole in
    ap (λ (v : View). is_marked v.words s) (seen c) ∙ mark_others c.args.self.now whole c.args.start c.requires.there s n
