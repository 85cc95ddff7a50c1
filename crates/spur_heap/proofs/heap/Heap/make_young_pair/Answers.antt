use Rattle.std.proofs.Common.{◌≤◌, ◌+◌, sym, subst}
use Rattle.spur_graph.specs.Room.{fresh_words}
use Rattle.spur_graph.specs.Heaps.{View, heap_room}
use Rattle.spur_heap.specs.declared.heap.HeapParts.{HeapParts}
use Rattle.spur_heap.specs.Parts.{view_of}
use Rattle.spur_heap.specs.Pairing.{MakesPair, PutsPair}
use Rattle.spur_heap.proofs.Allocated.{few_objects}
use Rattle.spur_heap.proofs.Needs.{eden_inside}
use Rattle.spur_heap.proofs.PairedParts.{eden_pair_parts, eden_pair_made}
use Rattle.spur_heap.proofs.heap.Heap.make_young_pair.Goals as goal

pub put_pair-requires-clause-inside : goal.put_pair-requires-clause-inside
put_pair-requires-clause-inside c =
    let p : HeapParts = c.self.inside.parts in
    let left : fresh_words c.args.first + fresh_words c.args.second ≤ (heap_room (view_of p)).eden_left =
    subst (λ (v : View). fresh_words c.args.first + fresh_words c.args.second ≤ (heap_room v).eden_left) (sym c.self.view_is) c.requires.left in
    eden_inside p c.self.invariant (fresh_words c.args.first + fresh_words c.args.second) left

pub put_pair-requires-clause-count : goal.put_pair-requires-clause-count
put_pair-requires-clause-count c = few_objects c.self.inside.parts c.self.invariant

pub invariant_of-self : goal.invariant_of-self
invariant_of-self c =
    let p : HeapParts = c.self.inside.parts in
    let left : fresh_words c.args.first + fresh_words c.args.second ≤ (heap_room (view_of p)).eden_left =
    subst (λ (v : View). fresh_words c.args.first + fresh_words c.args.second ≤ (heap_room v).eden_left) (sym c.self.view_is) c.requires.left in
    let puts : PutsPair (record p { eden_used = p.eden_used + (fresh_words c.args.first + fresh_words c.args.second) }) c.put_pair.new.parts (p.eden_at + p.eden_used) c.args.first c.args.second c.put_pair.result.0 c.put_pair.result.1 =
    subst (λ n. PutsPair (record p { eden_used = p.eden_used + n }) c.put_pair.new.parts (p.eden_at + p.eden_used) c.args.first c.args.second c.put_pair.result.0 c.put_pair.result.1) c.pair_words.ensures c.put_pair.ensures in
    eden_pair_parts p c.self.invariant c.args.first c.args.second c.requires.few_first c.requires.few_second left c.put_pair.new.parts c.put_pair.result.0 c.put_pair.result.1 puts

pub returns : goal.returns
returns c =
    let p : HeapParts = c.self.inside.parts in
    let left : fresh_words c.args.first + fresh_words c.args.second ≤ (heap_room (view_of p)).eden_left =
    subst (λ (v : View). fresh_words c.args.first + fresh_words c.args.second ≤ (heap_room v).eden_left) (sym c.self.view_is) c.requires.left in
    let puts : PutsPair (record p { eden_used = p.eden_used + (fresh_words c.args.first + fresh_words c.args.second) }) c.put_pair.new.parts (p.eden_at + p.eden_used) c.args.first c.args.second c.put_pair.result.0 c.put_pair.result.1 =
    subst (λ n. PutsPair (record p { eden_used = p.eden_used + n }) c.put_pair.new.parts (p.eden_at + p.eden_used) c.args.first c.args.second c.put_pair.result.0 c.put_pair.result.1) c.pair_words.ensures c.put_pair.ensures in
    subst (λ (v : View). MakesPair v (view_of c.put_pair.new.parts) c.args.first c.args.second c.put_pair.result.0 c.put_pair.result.1) c.self.view_is
    (eden_pair_made p c.self.invariant c.args.first c.args.second c.requires.few_first c.requires.few_second left c.put_pair.new.parts c.put_pair.result.0 c.put_pair.result.1 puts)
