use Rattle.std.proofs.Common.{◌≡◌, ◌+◌, ◌≤◌, ◌<◌, ℕ, List, length, ap, sym, ◌∙◌, subst, arith}
use Rattle.object_header.specs.Chunks.{slots_at, StandsAt}
use Rattle.spur_graph.specs.Heaps.{View, IsWhole, chunks_of, heap_value, heap_graph, heap_room}
use Rattle.spur_heap.specs.Contents.{TakesHeader}
use Rattle.spur_heap.specs.declared.heap.HeapParts.{HeapParts}
use Rattle.spur_heap.specs.Parts.{view_of, ArePartsOfHeap}
use Rattle.spur_heap.specs.Remembering.{must_with, noted}
use Rattle.spur_heap.specs.Views.{IsOrdinary, IsGood}
use Rattle.spur_heap.proofs.Puts.{start_there}
use Rattle.spur_heap.proofs.Tables.{parts_noting, can_note_at}
use Rattle.spur_heap.proofs.Copied.{Copies, HasCopied, object_stands, stands_inside, source_inside, copied_whole, copied_tables, copied_notes, target_starts, copied_chunks, copied_ordinary, copied_good, copied_value, copied_graph, copied_room, copied_others}
use Rattle.spur_heap.proofs.heap.Heap.copy_contents.Goals as goal

-- the place of the target is in the table then, if it has to be remembered; nothing else is another
noted_seen : (p : HeapParts) (v : View) → view_of p ≡ v → (from to : ℕ) (q : HeapParts) → q ≡ record p { remembered = noted (view_of p) (must_with (view_of p) to from) to p.remembered } → view_of q ≡ v
noted_seen p v same from to q is = ap view_of is ∙ same

pub note_with-requires-clause-can : goal.note_with-requires-clause-can
note_with-requires-clause-can c =
    let whole : IsWhole c.args.self.now = subst (λ (v : View). IsWhole v) c.self.view_is c.self.invariant.whole in
    can_note_at c.self.inside.parts c.self.invariant c.args.self.now c.self.view_is c.args.to (start_there c.args.self.now whole c.args.to c.requires.target)

pub header_taking-header-requires-clause-inside : goal.header_taking-header-requires-clause-inside
header_taking-header-requires-clause-inside c =
    let whole : IsWhole c.args.self.now = subst (λ (v : View). IsWhole v) c.self.view_is c.self.invariant.whole in
    subst (λ (v : View). (c.args.from < length v.words) × (c.args.to < length v.words)) (sym (noted_seen c.self.inside.parts c.args.self.now c.self.view_is c.args.from c.args.to c.note_with.new.parts c.note_with.ensures)) (stands_inside c.args.self.now whole c.args.from c.requires.source, stands_inside c.args.self.now whole c.args.to c.requires.target)

pub slots_of-slots-requires : goal.slots_of-slots-requires
slots_of-slots-requires c =
    let whole : IsWhole c.args.self.now = subst (λ (v : View). IsWhole v) c.self.view_is c.self.invariant.whole in
    subst (λ (ws : List ℕ). StandsAt ws c.args.to) (sym c.as_slice.ensures) (subst (λ (v : View). StandsAt v.words c.args.to) (sym (noted_seen c.self.inside.parts c.args.self.now c.self.view_is c.args.from c.args.to c.note_with.new.parts c.note_with.ensures)) (object_stands c.args.self.now whole c.args.to c.requires.target))

-- the run of the source stands among the words
source_run : (c : goal.After-copy_run-arg-1) → c.args.from + 1 + c.slots_of-slots.result ≤ length c.note_with.new.parts.region
source_run c =
    let whole : IsWhole c.args.self.now = subst (λ (v : View). IsWhole v) c.self.view_is c.self.invariant.whole in
    let slots : c.slots_of-slots.result ≡ slots_at c.args.self.now.words c.args.to = c.slots_of-slots.ensures.value ∙ ap (λ (ws : List ℕ). slots_at ws c.args.to) c.as_slice.ensures ∙ ap (λ (v : View). slots_at v.words c.args.to) (noted_seen c.self.inside.parts c.args.self.now c.self.view_is c.args.from c.args.to c.note_with.new.parts c.note_with.ensures) in
    subst (λ (v : View). c.args.from + 1 + c.slots_of-slots.result ≤ length v.words) (sym (noted_seen c.self.inside.parts c.args.self.now c.self.view_is c.args.from c.args.to c.note_with.new.parts c.note_with.ensures))
    (source_inside c.args.self.now whole c.args.from c.args.to c.requires.source c.requires.target c.requires.can c.slots_of-slots.result slots)

pub overflow_add-from : goal.overflow_add-from
overflow_add-from c = let low = source_run c in let end = c.len-end.ensures in let bound = c.len-end.type_inv in omega (arith, low, end, bound)

pub copy_run-requires-clause-source : goal.copy_run-requires-clause-source
copy_run-requires-clause-source c = source_run c

-- the words that the code has written
copied_of : (c : goal.After-put) → HasCopied c.args.self.now c.args.from c.args.to c.args.hash c.put.new.self
copied_of c =
    let w : ℕ = c.header_taking-header.result.0 in
    record {
      whole = subst (λ (u : View). IsWhole u) c.self.view_is c.self.invariant.whole;
      source = c.requires.source;
      target = c.requires.target;
      can = c.requires.can;
      slots = c.slots_of-slots.result;
      word = w;
      mid = c.copy_run.new.region;
      takes = subst (λ (u : View). TakesHeader u c.args.from c.args.to c.args.hash w) (noted_seen c.self.inside.parts c.args.self.now c.self.view_is c.args.from c.args.to c.note_with.new.parts c.note_with.ensures) c.header_taking-header.ensures;
      copies = subst (λ (u : View). Copies u c.args.from c.args.to c.slots_of-slots.result w c.copy_run.new.region c.put.new.self) (noted_seen c.self.inside.parts c.args.self.now c.self.view_is c.args.from c.args.to c.note_with.new.parts c.note_with.ensures) (record {
        as_many = c.slots_of-slots.ensures.value ∙ ap (λ (ws : List ℕ). slots_at ws c.args.to) c.as_slice.ensures;
        long = c.copy_run.ensures.same_length;
        run = c.copy_run.ensures.run;
        others = c.copy_run.ensures.others;
        header = c.put.ensures;
      });
    }

-- what is seen then
seen : (c : goal.After-put) → record (view_of c.note_with.new.parts) { words = c.put.new.self } ≡ record c.args.self.now { words = c.put.new.self }
seen c = ap (λ (u : View). let w : View = record u { words = c.put.new.self } in w) (noted_seen c.self.inside.parts c.args.self.now c.self.view_is c.args.from c.args.to c.note_with.new.parts c.note_with.ensures)

pub invariant_of-self : goal.invariant_of-self
invariant_of-self c =
    let v = c.args.self.now in
    let told : record (view_of c.self.inside.parts) { words = c.put.new.self } ≡ record v { words = c.put.new.self } = ap (λ (u : View). let w : View = record u { words = c.put.new.self } in w) c.self.view_is in
    subst (λ (q : HeapParts). ArePartsOfHeap (record q { region = c.put.new.self })) (sym c.note_with.ensures)
    (parts_noting c.self.inside.parts c.self.invariant v (record v { words = c.put.new.self }) c.self.view_is c.put.new.self told (copied_whole (copied_of c)) (copied_tables (copied_of c))
    (λ (x : View). must_with x c.args.to c.args.from) c.args.to (target_starts (copied_of c)) (copied_notes (copied_of c)))

pub returns-clause-graph : goal.returns-clause-graph
returns-clause-graph c = ap heap_graph (seen c) ∙ copied_graph (copied_of c)

pub returns-clause-room : goal.returns-clause-room
returns-clause-room c = ap heap_room (seen c) ∙ copied_room (copied_of c)

pub returns-clause-values : goal.returns-clause-values
returns-clause-values c w = ap (λ (u : View). heap_value u w) (seen c) ∙ copied_value (copied_of c) w

pub returns-clause-goods : goal.returns-clause-goods
returns-clause-goods c w good = subst (λ (u : View). IsGood u w) (sym (seen c)) (copied_good (copied_of c) w good)

pub returns-clause-ordinary : goal.returns-clause-ordinary
returns-clause-ordinary c t there = subst (λ (u : View). IsOrdinary u t) (sym (seen c)) (copied_ordinary (copied_of c) t there)

pub returns-clause-others : goal.returns-clause-others
returns-clause-others c = copied_others (copied_of c)

pub returns-clause-chunks : goal.returns-clause-chunks
returns-clause-chunks c = ap chunks_of (seen c) ∙ copied_chunks (copied_of c)
