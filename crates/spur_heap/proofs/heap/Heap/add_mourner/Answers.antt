use Rattle.std.proofs.Common.{◌∷◌, [], ◌++◌, ℕ, List, length, drop, sym, ap, ◌∙◌, subst, arith}
use Rattle.std.proofs.lemmas.List.{length-drop, length_push, drop-append-le}
use Rattle.spur_graph.specs.Graph.{Graph}
use Rattle.spur_graph.specs.Heaps.{View, heap_graph, heap_room}
use Rattle.spur_heap.specs.declared.heap.HeapParts.{HeapParts}
use Rattle.spur_heap.specs.Mourning.{added}
use Rattle.spur_heap.specs.Parts.{view_of}
use Rattle.spur_heap.proofs.Mourned.{left_count}
use Rattle.spur_heap.proofs.Puts.{start_inside}
use Rattle.spur_heap.proofs.Requeued.{CanJoin, Joins, room_left, joined_parts, joined_seen, joined_graph, joined_room}
use Rattle.spur_heap.proofs.heap.Heap.add_mourner.Goals as goal

pub make_place-requires-clause-few : goal.make_place-requires-clause-few
make_place-requires-clause-few c =
    let p = c.self.inside.parts in
    let can : CanJoin (view_of p) c.args.start c.args.first = subst (λ (v : View). CanJoin v c.args.start c.args.first) (sym c.self.view_is) (record { there = c.requires.there; format = c.requires.format; absent = c.requires.absent; some = c.requires.some }) in
    let room = room_left (view_of p) c.self.invariant.whole c.args.start c.args.first can in
    let places = c.self.invariant.tables.mourner_places in
    let count = left_count p c.self.invariant in
    let same = length-drop p.mourned p.mourners.items in
    omega (arith, room, places, count, same)

pub entry_of-requires : goal.entry_of-requires
entry_of-requires c =
    let p = c.self.inside.parts in
    let can : CanJoin (view_of p) c.args.start c.args.first = subst (λ (v : View). CanJoin v c.args.start c.args.first) (sym c.self.view_is) (record { there = c.requires.there; format = c.requires.format; absent = c.requires.absent; some = c.requires.some }) in
    let low = start_inside (view_of p) c.self.invariant.whole c.args.start can.there in
    let few = c.self.invariant.whole.few in
    record { below = omega (arith, low, few) }

-- the parts with the entry
joins : (c : goal.After-push_reserved) → Joins c.self.inside.parts (record c.make_place.new.parts { mourners = c.push_reserved.new.self }) c.args.start c.args.first
joins c =
    let p = c.self.inside.parts in
    let m = c.make_place.new.parts in
    let made = c.make_place.ensures in
    let e : ℕ = c.entry_of.result in
    record {
      heap = c.self.invariant;
      can = subst (λ (v : View). CanJoin v c.args.start c.args.first) (sym c.self.view_is) (record { there = c.requires.there; format = c.requires.format; absent = c.requires.absent; some = c.requires.some });
      changes = record {
        taken = let t = made.changes.taken in let l = ap (λ (es : List ℕ). length es) c.push_reserved.ensures.items in let one = length_push m.mourners.items e in omega (arith, t, l, one);
        places = c.push_reserved.ensures.capacity ∙ made.changes.places;
        rest = ap (λ (r : HeapParts). let q : HeapParts = record r { mourners = c.push_reserved.new.self } in q) made.changes.rest;
      };
      entry = e;
      starts = c.entry_of.ensures.start;
      begins = c.entry_of.ensures.begins;
      is = ap (drop m.mourned) c.push_reserved.ensures.items ∙ drop-append-le m.mourned m.mourners.items (e ∷ []) made.changes.taken ∙ ap (λ es. es ++ e ∷ []) made.same;
    }

pub invariant_of-self : goal.invariant_of-self
invariant_of-self c = joined_parts (joins c)

pub returns-clause-rest : goal.returns-clause-rest
returns-clause-rest c = joined_seen (joins c) ∙ ap (λ (v : View). let u : View = record v { mourners = added v.mourners c.args.start c.args.first } in u) c.self.view_is

pub returns-clause-graph : goal.returns-clause-graph
returns-clause-graph c = joined_graph (joins c) ∙ ap (λ (v : View). let g : Graph = record (heap_graph v) { mourners = added (heap_graph v).mourners c.args.start c.args.first } in g) c.self.view_is

pub returns-clause-room : goal.returns-clause-room
returns-clause-room c = joined_room (joins c) ∙ ap heap_room c.self.view_is
