use Rattle.std.proofs.Common.{◌≡◌, ◌<◌, ap, sym, ◌∙◌, subst, arith, length}
use Rattle.spur_graph.specs.Heaps.{View, IsWhole, heap_value, heap_graph, heap_room}
use Rattle.spur_heap.specs.declared.heap.HeapParts.{HeapParts}
use Rattle.spur_heap.specs.Parts.{view_of, ArePartsOfHeap}
use Rattle.spur_heap.specs.Views.{IsOrdinary, IsGood}
use Rattle.spur_heap.specs.Remembering.{must_remember, stored}
use Rattle.spur_heap.proofs.Puts.{start_there, pointer_inside}
use Rattle.spur_heap.proofs.Tables.{parts_noting, can_note_at}
use Rattle.spur_heap.proofs.Storing.{remembered_for_long, stored_whole, stored_tables, stored_notes, stored_seen, stored_graph, stored_room, stored_value, stored_good, stored_ordinary}
use Rattle.spur_heap.proofs.heap.Heap.put_pointer.Goals as goal

pub remember_for-requires : goal.remember_for-requires
remember_for-requires c =
    let whole : IsWhole c.args.self.now = subst (λ (v : View). IsWhole v) c.self.view_is c.self.invariant.whole in
    record { can = can_note_at c.self.inside.parts c.self.invariant c.args.self.now c.self.view_is c.args.start (start_there c.args.self.now whole c.args.start c.requires.there) }

pub overflow_add-start : goal.overflow_add-start
overflow_add-start c =
    let whole : IsWhole c.args.self.now = subst (λ (v : View). IsWhole v) c.self.view_is c.self.invariant.whole in
    let far = pointer_inside c.args.self.now whole c.args.start c.requires.there c.args.i c.requires.within in
    let few = whole.few in
    omega (arith, far, few)

pub overflow_add-start-2 : goal.overflow_add-start-2
overflow_add-start-2 c =
    let whole : IsWhole c.args.self.now = subst (λ (v : View). IsWhole v) c.self.view_is c.self.invariant.whole in
    let far = pointer_inside c.args.self.now whole c.args.start c.requires.there c.args.i c.requires.within in
    let few = whole.few in
    omega (arith, far, few)

pub put-requires : goal.put-requires
put-requires c =
    let whole : IsWhole c.args.self.now = subst (λ (v : View). IsWhole v) c.self.view_is c.self.invariant.whole in
    let far = pointer_inside c.args.self.now whole c.args.start c.requires.there c.args.i c.requires.within in
    let long : length c.remember_for.new.parts.region ≡ length c.args.self.now.words =
    ap (λ (p : HeapParts). length p.region) c.remember_for.ensures ∙ remembered_for_long (view_of c.self.inside.parts) c.args.start c.args.word ∙ ap (λ (v : View). length v.words) c.self.view_is in
    omega (arith, far, long)

pub returns-clause-written : goal.returns-clause-written
returns-clause-written c =
    stored_seen c.self.inside.parts c.args.self.now c.self.view_is c.args.start c.args.i c.args.word c.remember_for.new.parts _ c.remember_for.ensures c.put.new.self c.put.ensures

pub invariant_of-self : goal.invariant_of-self
invariant_of-self c =
    let v = c.args.self.now in
    let whole : IsWhole v = subst (λ (u : View). IsWhole u) c.self.view_is c.self.invariant.whole in
    let seen = ap (λ (p : HeapParts). view_of (record p { region = c.put.new.self })) (sym c.remember_for.ensures) ∙ returns-clause-written c in
    subst (λ (p : HeapParts). ArePartsOfHeap (record p { region = c.put.new.self })) (sym c.remember_for.ensures)
    (parts_noting c.self.inside.parts c.self.invariant v (stored v c.args.start c.args.i c.args.word) c.self.view_is c.put.new.self seen
    (stored_whole v whole c.args.start c.requires.there c.args.word c.args.i c.requires.within c.requires.no_literals c.requires.good)
    (stored_tables v whole c.args.start c.requires.there c.args.word c.args.i c.requires.within c.requires.no_literals c.requires.good)
    (λ (x : View). must_remember x c.args.start c.args.word) c.args.start (start_there v whole c.args.start c.requires.there)
    (stored_notes v whole c.args.start c.requires.there c.args.word c.args.i c.requires.within c.requires.no_literals c.requires.good))

pub returns-clause-graph : goal.returns-clause-graph
returns-clause-graph c =
    let whole : IsWhole c.args.self.now = subst (λ (v : View). IsWhole v) c.self.view_is c.self.invariant.whole in
    ap heap_graph (returns-clause-written c) ∙ stored_graph c.args.self.now whole c.args.start c.requires.there c.args.word c.args.i c.requires.within c.requires.no_literals c.requires.good

pub returns-clause-room : goal.returns-clause-room
returns-clause-room c =
    let whole : IsWhole c.args.self.now = subst (λ (v : View). IsWhole v) c.self.view_is c.self.invariant.whole in
    ap heap_room (returns-clause-written c) ∙ stored_room c.args.self.now whole c.args.start c.requires.there c.args.word c.args.i c.requires.within c.requires.no_literals c.requires.good

pub returns-clause-values : goal.returns-clause-values
returns-clause-values c u =
    let whole : IsWhole c.args.self.now = subst (λ (v : View). IsWhole v) c.self.view_is c.self.invariant.whole in
    ap (λ (v : View). heap_value v u) (returns-clause-written c) ∙ stored_value c.args.self.now whole c.args.start c.requires.there c.args.word c.args.i c.requires.within c.requires.no_literals c.requires.good u

pub returns-clause-goods : goal.returns-clause-goods
returns-clause-goods c u good =
    let whole : IsWhole c.args.self.now = subst (λ (v : View). IsWhole v) c.self.view_is c.self.invariant.whole in
    subst (λ (v : View). IsGood v u) (sym (returns-clause-written c)) (stored_good c.args.self.now whole c.args.start c.requires.there c.args.word c.args.i c.requires.within c.requires.no_literals c.requires.good u good)

pub returns-clause-ordinary : goal.returns-clause-ordinary
returns-clause-ordinary c t there =
    let whole : IsWhole c.args.self.now = subst (λ (v : View). IsWhole v) c.self.view_is c.self.invariant.whole in
    subst (λ (v : View). IsOrdinary v t) (sym (returns-clause-written c)) (stored_ordinary c.args.self.now whole c.args.start c.requires.there c.args.word c.args.i c.requires.within c.requires.no_literals c.requires.good t there)
