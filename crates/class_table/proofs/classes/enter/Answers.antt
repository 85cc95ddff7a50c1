use Rattle.std.proofs.Common.{◌∙◌, sym, Some, None}
use Rattle.spur_graph.specs.Heaps.{heap_value}
use Rattle.spur_heap.specs.Views.{node_in}
use Rattle.spur_graph.proofs.Refusing.{handed_on}
use Rattle.class_table.proofs.Entering.{refused_hashed, refused_table, refused_full, can_enter, graph_entered}
use Rattle.class_table.proofs.Hashing.{unentered_as}
use Rattle.class_table.proofs.classes.enter.Goals as goal

pub returns-then-hash-ne0-clause-refusal : goal.returns-then-hash-ne0-clause-refusal
returns-then-hash-ne0-clause-refusal c =
    let v = c.args.heap.now in
    let start = c.in_ok-start in
    refused_hashed v start.start (heap_value v c.args.object) start.ensures.there start.ensures.value start.ensures.refusal (sym c.is_special.ensures ∙ c.if-is_special.false)
    (λ e. c.if-hash-ne0.true (c.hash.ensures.value ∙ c.header.ensures.hash ∙ e))

pub returns-in_default-clause-refusal : goal.returns-in_default-clause-refusal
returns-in_default-clause-refusal c =
    let v = c.args.heap.now in
    let start = c.in_ok-start in
    refused_table v start.start (heap_value v c.args.object) start.ensures.there start.ensures.value start.ensures.refusal (sym c.is_special.ensures ∙ c.if-is_special.false)
    (sym (c.hash.ensures.value ∙ c.header.ensures.hash) ∙ c.if-hash-ne0.false) c.in_default.ensures.none

pub returns-in_err-place_for-clause-refusal : goal.returns-in_err-place_for-clause-refusal
returns-in_err-place_for-clause-refusal c =
    let v = c.args.heap.now in
    let start = c.in_ok-start in
    let index = c.in-Some in
    refused_full v start.start (heap_value v c.args.object) start.ensures.there start.ensures.value start.ensures.refusal (sym c.is_special.ensures ∙ c.if-is_special.false)
    (sym (c.hash.ensures.value ∙ c.header.ensures.hash) ∙ c.if-hash-ne0.false) index.index index.ensures.some.0 index.ensures.some.2 (Some c.in_err-place_for.field-0.0) c.in_err-place_for.ensures.refusal
    ∙ handed_on _ c.in_err-place_for.field-0.0 c.from_residual-in_err-place_for.ensures.1

pub put_hash-requires : goal.put_hash-requires
put_hash-requires c =
    let v = c.args.heap.now in
    let start = c.in_ok-start in
    let place = c.in_ok-place_for.ensures.place in
    record {
      there = place.ordinary start.start start.ensures.there;
      unentered = unentered_as v c.place_for.new.heap start.start start.ensures.there (sym (c.hash.ensures.value ∙ c.header.ensures.hash) ∙ c.if-hash-ne0.false) place.graph;
      fits = c.in-Some.ensures.some.2;
    }

pub put_entry-requires : goal.put_entry-requires
put_entry-requires c =
    let v = c.args.heap.now in
    let start = c.in_ok-start in
    let index = c.in-Some in
    let place = c.in_ok-place_for.ensures.place in
    record {
      can = can_enter v c.place_for.new.heap c.put_hash.new.self start.start index.index (node_in c.place_for.new.heap start.start) place
          (c.put_hash.ensures.ordinary start.start (place.ordinary start.start start.ensures.there)) (sym c.is_special.ensures ∙ c.if-is_special.false) index.ensures.some.1 index.ensures.some.2 index.ensures.unentered
          c.put_hash.ensures.graph c.put_hash.ensures.room;
    }

pub returns-clause-refusal : goal.returns-clause-refusal
returns-clause-refusal c =
    let v = c.args.heap.now in
    let start = c.in_ok-start in
    let index = c.in-Some in
    refused_full v start.start (heap_value v c.args.object) start.ensures.there start.ensures.value start.ensures.refusal (sym c.is_special.ensures ∙ c.if-is_special.false)
    (sym (c.hash.ensures.value ∙ c.header.ensures.hash) ∙ c.if-hash-ne0.false) index.index index.ensures.some.0 index.ensures.some.2 None c.in_ok-place_for.ensures.refusal

pub returns-clause-graph : goal.returns-clause-graph
returns-clause-graph c =
    let v = c.args.heap.now in
    let start = c.in_ok-start in
    let index = c.in-Some in
    graph_entered v c.place_for.new.heap c.put_hash.new.self c.put_entry.new.self start.start index.index (heap_value v c.args.object) start.ensures.value index.ensures.some.0 start.ensures.there
    c.in_ok-place_for.ensures.place c.put_hash.ensures.graph c.put_entry.ensures.graph
