use Rattle.std.proofs.Common.{◌∙◌, ◌≡◌, ◌+◌, ◌<◌, ℕ, None, IfNone, MatchOption, sym, subst, Option}
use Rattle.spur_graph.specs.Room.{fresh_words}
use Rattle.spur_graph.specs.Serve.{Anywhere, serve}
use Rattle.spur_graph.specs.Spaces.{old_row}
use Rattle.spur_graph.specs.Heaps.{View, heap_room}
use Rattle.free_lists.specs.Rows.{free_runs}
use Rattle.spur_heap.specs.declared.heap.HeapParts.{HeapParts}
use Rattle.spur_heap.specs.Parts.{view_of, ArePartsOfHeap}
use Rattle.spur_heap.specs.Pairing.{MakesPair}
use Rattle.spur_heap.proofs.Allocated.{few_objects, untaken}
use Rattle.spur_heap.proofs.EdenServed.{old_has_to}
use Rattle.spur_heap.proofs.Needs.{took, none_served, old_inside}
use Rattle.spur_heap.proofs.PairedParts.{old_pair_parts, old_pair_made}
use Rattle.spur_heap.proofs.heap.Heap.make_old_pair.Goals as goal

pub invariant_of-self : goal.invariant_of-self
invariant_of-self c =
    let p : HeapParts = c.self.inside.parts in
    let same : (c.take.new.region ≡ p.region) × (c.take.new.self ≡ p.free) = subst (λ (r : Option ℕ). IfNone r ((c.take.new.region ≡ p.region) × (c.take.new.self ≡ p.free))) c.in_err-at.was c.take.ensures.none in
    subst (λ (x : HeapParts). ArePartsOfHeap x) (sym (untaken p c.take.new.region c.take.new.self same.0 same.1)) c.self.invariant

pub returns-in_err-at-clause-made : goal.returns-in_err-at-clause-made
returns-in_err-at-clause-made c =
    let p : HeapParts = c.self.inside.parts in
    let none_left : (heap_room (view_of p)).eden_left < fresh_words c.args.first + fresh_words c.args.second =
    subst (λ (v : View). (heap_room v).eden_left < fresh_words c.args.first + fresh_words c.args.second) (sym c.self.view_is) c.requires.none_left in
    let none : serve Anywhere (heap_room c.args.self.now) (fresh_words c.args.first + fresh_words c.args.second) ≡ None =
    subst (λ (v : View). serve Anywhere (heap_room v) (fresh_words c.args.first + fresh_words c.args.second) ≡ None) c.self.view_is
    (old_has_to (view_of p) (fresh_words c.args.first + fresh_words c.args.second) none_left ∙ none_served p c.self.invariant (fresh_words c.args.first + fresh_words c.args.second) c.take.new.region c.take.new.self c.pair_words-need.result c.take.result c.pair_words-need.ensures c.in_err-at.was c.take.ensures.taken) in
    let Made : Option (ℕ × ℕ) → Type 0 =
    λ r. MatchOption r (serve Anywhere (heap_room c.args.self.now) (fresh_words c.args.first + fresh_words c.args.second) ≡ None)
    (λ pair. MakesPair c.args.self.now (view_of (record p { region = c.take.new.region; free = c.take.new.self })) c.args.first c.args.second pair.0 pair.1) in
    subst Made (sym c.from_residual.ensures) none

pub put_pair-requires-clause-inside : goal.put_pair-requires-clause-inside
put_pair-requires-clause-inside c =
    let p : HeapParts = c.self.inside.parts in
    let takes = took p c.self.invariant (fresh_words c.args.first + fresh_words c.args.second) c.take.new.region c.take.new.self c.pair_words-need.result c.in_ok-at.at c.take.result c.pair_words-need.ensures
    c.in_ok-at.was c.take.ensures.taken in
    old_inside p c.self.invariant (fresh_words c.args.first + fresh_words c.args.second) c.take.new.region c.take.new.self c.in_ok-at.at takes c.take.ensures.same_length

pub put_pair-requires-clause-count : goal.put_pair-requires-clause-count
put_pair-requires-clause-count c = few_objects c.self.inside.parts c.self.invariant

pub invariant_of-self-2 : goal.invariant_of-self-2
invariant_of-self-2 c =
    let p : HeapParts = c.self.inside.parts in
    let takes = took p c.self.invariant (fresh_words c.args.first + fresh_words c.args.second) c.take.new.region c.take.new.self c.pair_words-need.result c.in_ok-at.at c.take.result c.pair_words-need.ensures
    c.in_ok-at.was c.take.ensures.taken in
    let others = c.take.ensures.others (free_runs p.region (old_row p.region (view_of p).spaces)) c.self.invariant.free_chunks.lists in
    old_pair_parts p c.self.invariant c.args.first c.args.second c.requires.few_first c.requires.few_second c.take.new.region c.take.new.self c.in_ok-at.at takes c.take.ensures.same_length others
    c.put_pair.new.parts c.put_pair.result.0 c.put_pair.result.1 c.put_pair.ensures

pub returns-clause-made : goal.returns-clause-made
returns-clause-made c =
    let p : HeapParts = c.self.inside.parts in
    let none_left : (heap_room (view_of p)).eden_left < fresh_words c.args.first + fresh_words c.args.second =
    subst (λ (v : View). (heap_room v).eden_left < fresh_words c.args.first + fresh_words c.args.second) (sym c.self.view_is) c.requires.none_left in
    let takes = took p c.self.invariant (fresh_words c.args.first + fresh_words c.args.second) c.take.new.region c.take.new.self c.pair_words-need.result c.in_ok-at.at c.take.result c.pair_words-need.ensures
    c.in_ok-at.was c.take.ensures.taken in
    let others = c.take.ensures.others (free_runs p.region (old_row p.region (view_of p).spaces)) c.self.invariant.free_chunks.lists in
    subst (λ (v : View). MakesPair v (view_of c.put_pair.new.parts) c.args.first c.args.second c.put_pair.result.0 c.put_pair.result.1) c.self.view_is
    (old_pair_made p c.self.invariant c.args.first c.args.second c.requires.few_first c.requires.few_second c.take.new.region c.take.new.self c.in_ok-at.at takes c.take.ensures.same_length others
    c.put_pair.new.parts c.put_pair.result.0 c.put_pair.result.1 c.put_pair.ensures none_left)
