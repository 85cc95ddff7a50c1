use Rattle.std.proofs.Common.{arith, ◌≤◌, ◌+◌, sym, subst}
use Rattle.spur_graph.specs.Room.{fresh_words}
use Rattle.spur_graph.specs.Serve.{Anywhere}
use Rattle.spur_graph.specs.Heaps.{View, heap_room}
use Rattle.spur_heap.specs.declared.heap.HeapParts.{HeapParts}
use Rattle.spur_heap.specs.Parts.{view_of}
use Rattle.spur_heap.specs.Fresh.{PutsObject}
use Rattle.spur_heap.specs.Allocating.{Makes}
use Rattle.spur_heap.proofs.Allocated.{few_objects, eden_parts, eden_makes}
use Rattle.spur_heap.proofs.Needs.{eden_inside}
use Rattle.spur_heap.proofs.heap.Heap.make_young.Goals as goal

pub put_object-requires-clause-inside : goal.put_object-requires-clause-inside
put_object-requires-clause-inside c =
    let p : HeapParts = c.self.inside.parts in
    let left : fresh_words c.args.slots ≤ (heap_room (view_of p)).eden_left = subst (λ (v : View). fresh_words c.args.slots ≤ (heap_room v).eden_left) (sym c.self.view_is) c.requires.left in
    eden_inside p c.self.invariant (fresh_words c.args.slots) left

pub put_object-requires-clause-count : goal.put_object-requires-clause-count
put_object-requires-clause-count c = omega (arith, few_objects c.self.inside.parts c.self.invariant)

pub invariant_of-self : goal.invariant_of-self
invariant_of-self c =
    let p : HeapParts = c.self.inside.parts in
    let left : fresh_words c.args.slots ≤ (heap_room (view_of p)).eden_left = subst (λ (v : View). fresh_words c.args.slots ≤ (heap_room v).eden_left) (sym c.self.view_is) c.requires.left in
    let q : HeapParts = c.put_object.new.parts in
    let puts : PutsObject (record p { eden_used = p.eden_used + fresh_words c.args.slots }) q (p.eden_at + p.eden_used) c.args.class c.args.format c.args.slots c.fill_word-word.result c.put_object.result =
    subst (λ n. PutsObject (record p { eden_used = p.eden_used + n }) q (p.eden_at + p.eden_used) c.args.class c.args.format c.args.slots c.fill_word-word.result c.put_object.result) c.fresh_words.ensures c.put_object.ensures in
    eden_parts p c.self.invariant c.args.class c.args.format c.args.slots c.requires.can left c.fill_word-word.result c.fill_word-word.ensures q c.put_object.result puts

pub returns : goal.returns
returns c =
    let p : HeapParts = c.self.inside.parts in
    let left : fresh_words c.args.slots ≤ (heap_room (view_of p)).eden_left = subst (λ (v : View). fresh_words c.args.slots ≤ (heap_room v).eden_left) (sym c.self.view_is) c.requires.left in
    let q : HeapParts = c.put_object.new.parts in
    let puts : PutsObject (record p { eden_used = p.eden_used + fresh_words c.args.slots }) q (p.eden_at + p.eden_used) c.args.class c.args.format c.args.slots c.fill_word-word.result c.put_object.result =
    subst (λ n. PutsObject (record p { eden_used = p.eden_used + n }) q (p.eden_at + p.eden_used) c.args.class c.args.format c.args.slots c.fill_word-word.result c.put_object.result) c.fresh_words.ensures c.put_object.ensures in
    subst (λ (v : View). Makes v (view_of q) Anywhere c.args.class c.args.format c.args.slots c.put_object.result) c.self.view_is
    (eden_makes p c.self.invariant c.args.class c.args.format c.args.slots c.requires.can left c.fill_word-word.result c.fill_word-word.ensures q c.put_object.result puts)
