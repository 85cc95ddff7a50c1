use Rattle.std.proofs.Common.{◌∙◌, ap, sym, subst}
use Rattle.spur_graph.specs.Value.{name_of}
use Rattle.spur_graph.specs.Node.{Node}
use Rattle.spur_graph.specs.Hashes.{next_state}
use Rattle.spur_graph.specs.Heaps.{View, heap_graph, heap_value}
use Rattle.spur_heap.specs.Views.{IsOrdinary}
use Rattle.spur_heap.proofs.NodesAt.{node_named}
use Rattle.class_table.proofs.Hashing.{hash_stands, graph_stands, hash_drawn, unentered_drawn, heap_drawn}
use Rattle.class_table.proofs.hashes.identity_hash.Goals as goal

pub returns-then-hash-ne0-clause-hash : goal.returns-then-hash-ne0-clause-hash
returns-then-hash-ne0-clause-hash c =
    let v = c.args.heap.now in
    let a = name_of (heap_value v c.args.object) in
    let start = c.in_ok-start in
    let named = node_named v start.start (heap_value v c.args.object) start.ensures.there start.ensures.value in
    hash_stands (heap_graph v) a c.hash-hash.result (ap (λ (n : Node). n.hash) named ∙ sym (c.hash-hash.ensures.value ∙ c.header.ensures.hash)) c.if-hash-ne0.true

pub returns-then-hash-ne0-clause-graph : goal.returns-then-hash-ne0-clause-graph
returns-then-hash-ne0-clause-graph c =
    let v = c.args.heap.now in
    let a = name_of (heap_value v c.args.object) in
    let start = c.in_ok-start in
    let named = node_named v start.start (heap_value v c.args.object) start.ensures.there start.ensures.value in
    graph_stands (heap_graph v) a c.hash-hash.result (ap (λ (n : Node). n.hash) named ∙ sym (c.hash-hash.ensures.value ∙ c.header.ensures.hash)) c.if-hash-ne0.true

pub put_hash-requires : goal.put_hash-requires
put_hash-requires c =
    let v = c.args.heap.now in
    let start = c.in_ok-start in
    let drawn = c.draw_hash-drawn in
    record {
      there = subst (λ (u : View). IsOrdinary u start.start) (sym drawn.ensures.state) start.ensures.there;
      unentered = unentered_drawn v drawn.new.self start.start (next_state v.hash) start.ensures.there (sym (c.hash-hash.ensures.value ∙ c.header.ensures.hash) ∙ c.if-hash-ne0.false) drawn.ensures.state;
      fits = drawn.ensures.fits;
    }

pub returns-clause-hash : goal.returns-clause-hash
returns-clause-hash c =
    let v = c.args.heap.now in
    let a = name_of (heap_value v c.args.object) in
    let start = c.in_ok-start in
    let named = node_named v start.start (heap_value v c.args.object) start.ensures.there start.ensures.value in
    hash_drawn (heap_graph v) a c.draw_hash-drawn.result (ap (λ (n : Node). n.hash) named ∙ sym (c.hash-hash.ensures.value ∙ c.header.ensures.hash) ∙ c.if-hash-ne0.false) c.draw_hash-drawn.ensures.drawn

pub returns-clause-graph : goal.returns-clause-graph
returns-clause-graph c =
    let v = c.args.heap.now in
    let start = c.in_ok-start in
    heap_drawn v c.draw_hash-drawn.new.self c.put_hash.new.self start.start c.draw_hash-drawn.result (heap_value v c.args.object) start.ensures.there start.ensures.value
    (sym (c.hash-hash.ensures.value ∙ c.header.ensures.hash) ∙ c.if-hash-ne0.false) c.draw_hash-drawn.ensures.drawn c.draw_hash-drawn.ensures.state c.put_hash.ensures.graph
