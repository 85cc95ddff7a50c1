use Rattle.std.proofs.Common.{◌∙◌, sym}
use Rattle.spur_graph.specs.Heaps.{heap_graph, heap_value}
use Rattle.spur_graph.proofs.Classed.{classed_is_entered}
use Rattle.lazy_become.proofs.RowReads.{may_forward}
use Rattle.lazy_become.proofs.Forwarded.{Hands, hands, keeps, keeps_class, keeps_mourner, stays_plain, graph_forwarded, words_forwarded}
use Rattle.lazy_become.proofs.forwarding.forward.Goals as goal
use Rattle.lazy_become.proofs.forwarding.forward.Goals.{then-copy_hash, else-copy_hash}

pub hand_hash-requires-clause-unentered : goal.hand_hash-requires-clause-unentered
hand_hash-requires-clause-unentered c =
    let v = c.args.heap.now in
    let from = c.in_ok-from.from in
    let to = c.in_ok-to.to in
    let may = may_forward (heap_graph v) from to c.args.copy_hash c.in_ok-may_forward.ensures in
    sym (classed_is_entered (heap_graph v) c.whole.ensures.closed to) ∙ may.other c.if-copy_hash.true

pub forward_to-requires : goal.forward_to-requires
forward_to-requires c =
    let v = c.args.heap.now in
    let from = c.in_ok-from.from in
    let to = c.in_ok-to.to in
    let u = c.if-copy_hash.heap in
    let may = may_forward (heap_graph v) from to c.args.copy_hash c.in_ok-may_forward.ensures in
    let k : Hands v u from to c.args.copy_hash = elim c.if-copy_hash.branch [
      | then-copy_hash w ↦ hands v w.hand_hash.new.heap u from to c.args.copy_hash w.if-copy_hash.true w.heap-is w.hand_hash.ensures.graph w.hand_hash.ensures.ordinary w.hand_hash.ensures.others
      | else-copy_hash w ↦ keeps v u from to c.args.copy_hash w.if-copy_hash.false w.heap-is
    ] in
    record {
      there = k.ordinary from c.in_ok-from.ensures.there;
      other = k.ordinary to c.in_ok-to.ensures.there;
      apart = c.if-from-to.false;
      plain = stays_plain v u from to c.args.copy_hash c.if-from-to.false k may.special;
      class = keeps_class v u from to c.args.copy_hash c.if-from-to.false k c.whole.ensures.closed may.classed;
      mourner = keeps_mourner v u from to c.args.copy_hash c.if-from-to.false k may.waiting;
    }

pub returns-clause-graph : goal.returns-clause-graph
returns-clause-graph c =
    let v = c.args.heap.now in
    let from = c.in_ok-from.from in
    let to = c.in_ok-to.to in
    let u = c.if-copy_hash.heap in
    let k : Hands v u from to c.args.copy_hash = elim c.if-copy_hash.branch [
      | then-copy_hash w ↦ hands v w.hand_hash.new.heap u from to c.args.copy_hash w.if-copy_hash.true w.heap-is w.hand_hash.ensures.graph w.hand_hash.ensures.ordinary w.hand_hash.ensures.others
      | else-copy_hash w ↦ keeps v u from to c.args.copy_hash w.if-copy_hash.false w.heap-is
    ] in
    graph_forwarded v u from to c.args.copy_hash c.if-from-to.false k c.forward_to.new.self (heap_value v c.args.a) (heap_value v c.args.b) c.in_ok-from.ensures.value c.in_ok-to.ensures.value c.forward_to.ensures.graph

pub returns-clause-words : goal.returns-clause-words
returns-clause-words c =
    let v = c.args.heap.now in
    let from = c.in_ok-from.from in
    let to = c.in_ok-to.to in
    let u = c.if-copy_hash.heap in
    let k : Hands v u from to c.args.copy_hash = elim c.if-copy_hash.branch [
      | then-copy_hash w ↦ hands v w.hand_hash.new.heap u from to c.args.copy_hash w.if-copy_hash.true w.heap-is w.hand_hash.ensures.graph w.hand_hash.ensures.ordinary w.hand_hash.ensures.others
      | else-copy_hash w ↦ keeps v u from to c.args.copy_hash w.if-copy_hash.false w.heap-is
    ] in
    words_forwarded v u from to c.args.copy_hash c.if-from-to.false k c.forward_to.new.self (heap_value v c.args.a) (heap_value v c.args.b) c.in_ok-from.ensures.value c.in_ok-to.ensures.value
    c.whole.ensures.whole c.in_ok-from.ensures.there c.forward_to.ensures.written
