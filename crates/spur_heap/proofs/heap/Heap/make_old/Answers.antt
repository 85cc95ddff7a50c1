use Rattle.std.proofs.Common.{arith, ◌≡◌, ℕ, None, IfNone, MatchOption, sym, subst, Option}
use Rattle.spur_graph.specs.Room.{fresh_words}
use Rattle.spur_graph.specs.Serve.{OldAlone, serve}
use Rattle.spur_graph.specs.Spaces.{old_row}
use Rattle.spur_graph.specs.Heaps.{View, heap_room}
use Rattle.free_lists.specs.Rows.{free_runs}
use Rattle.spur_heap.specs.declared.heap.HeapParts.{HeapParts}
use Rattle.spur_heap.specs.Parts.{view_of, ArePartsOfHeap}
use Rattle.spur_heap.specs.Allocating.{Makes}
use Rattle.spur_heap.proofs.Allocated.{few_objects, old_parts, old_makes, untaken}
use Rattle.spur_heap.proofs.Needs.{took, none_served, old_inside}
use Rattle.spur_heap.proofs.heap.Heap.make_old.Goals as goal

pub invariant_of-self : goal.invariant_of-self
invariant_of-self c =
    let p : HeapParts = c.self.inside.parts in
    let same : (c.take.new.region ≡ p.region) × (c.take.new.self ≡ p.free) = subst (λ (r : Option ℕ). IfNone r ((c.take.new.region ≡ p.region) × (c.take.new.self ≡ p.free))) c.in_err-at.was c.take.ensures.none in
    subst (λ (x : HeapParts). ArePartsOfHeap x) (sym (untaken p c.take.new.region c.take.new.self same.0 same.1)) c.self.invariant

pub returns-in_err-at-clause-made : goal.returns-in_err-at-clause-made
returns-in_err-at-clause-made c =
    let none : serve OldAlone (heap_room c.args.self.now) (fresh_words c.args.slots) ≡ None =
    subst (λ (v : View). serve OldAlone (heap_room v) (fresh_words c.args.slots) ≡ None) c.self.view_is
    (none_served c.self.inside.parts c.self.invariant (fresh_words c.args.slots) c.take.new.region c.take.new.self c.fresh_words.result c.take.result c.fresh_words.ensures c.in_err-at.was c.take.ensures.taken) in
    let Made : Option ℕ → Type 0 =
    λ r. MatchOption r (serve OldAlone (heap_room c.args.self.now) (fresh_words c.args.slots) ≡ None)
    (Makes c.args.self.now (view_of (record c.self.inside.parts { region = c.take.new.region; free = c.take.new.self })) OldAlone c.args.class c.args.format c.args.slots) in
    subst Made (sym c.from_residual.ensures) none

pub put_object-requires-clause-inside : goal.put_object-requires-clause-inside
put_object-requires-clause-inside c =
    let takes = took c.self.inside.parts c.self.invariant (fresh_words c.args.slots) c.take.new.region c.take.new.self c.fresh_words.result c.in_ok-at.at c.take.result c.fresh_words.ensures c.in_ok-at.was c.take.ensures.taken in
    old_inside c.self.inside.parts c.self.invariant (fresh_words c.args.slots) c.take.new.region c.take.new.self c.in_ok-at.at takes c.take.ensures.same_length

pub put_object-requires-clause-count : goal.put_object-requires-clause-count
put_object-requires-clause-count c = omega (arith, few_objects c.self.inside.parts c.self.invariant)

pub invariant_of-self-2 : goal.invariant_of-self-2
invariant_of-self-2 c =
    let takes = took c.self.inside.parts c.self.invariant (fresh_words c.args.slots) c.take.new.region c.take.new.self c.fresh_words.result c.in_ok-at.at c.take.result c.fresh_words.ensures c.in_ok-at.was c.take.ensures.taken in
    let others = c.take.ensures.others (free_runs c.self.inside.parts.region (old_row c.self.inside.parts.region (view_of c.self.inside.parts).spaces)) c.self.invariant.free_chunks.lists in
    old_parts c.self.inside.parts c.self.invariant c.args.class c.args.format c.args.slots c.requires.can c.take.new.region c.take.new.self c.in_ok-at.at takes c.take.ensures.same_length others
    c.fill_word-word.result c.fill_word-word.ensures c.put_object.new.parts c.put_object.result c.put_object.ensures

pub returns-clause-made : goal.returns-clause-made
returns-clause-made c =
    let takes = took c.self.inside.parts c.self.invariant (fresh_words c.args.slots) c.take.new.region c.take.new.self c.fresh_words.result c.in_ok-at.at c.take.result c.fresh_words.ensures c.in_ok-at.was c.take.ensures.taken in
    let others = c.take.ensures.others (free_runs c.self.inside.parts.region (old_row c.self.inside.parts.region (view_of c.self.inside.parts).spaces)) c.self.invariant.free_chunks.lists in
    subst (λ (v : View). Makes v (view_of c.put_object.new.parts) OldAlone c.args.class c.args.format c.args.slots c.put_object.result) c.self.view_is
    (old_makes c.self.inside.parts c.self.invariant c.args.class c.args.format c.args.slots c.requires.can c.take.new.region c.take.new.self c.in_ok-at.at takes c.take.ensures.same_length others
    c.fill_word-word.result c.fill_word-word.ensures c.put_object.new.parts c.put_object.result c.put_object.ensures)
