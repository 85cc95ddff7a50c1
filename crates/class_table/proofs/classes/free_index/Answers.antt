use Rattle.std.proofs.Common.{◌∙◌, ◌<◌, ◌≤◌, sym, arith}
use Rattle.spur_graph.specs.Ordinary.{class_limit}
use Rattle.spur_graph.specs.Heaps.{heap_graph}
use Rattle.class_table.proofs.FreeIndices.{from_first, found_here, found_later, found_none}
use Rattle.class_table.proofs.classes.free_index.Goals as goal

pub indices-init : goal.indices-init
indices-init c = record { least = from_first (heap_graph c.args.heap.now); first = omega arith; below = omega arith }

pub indices-preserved : goal.indices-preserved
indices-preserved c =
    let kept = c.indices.invariant in
    let low : c.indices.index < class_limit = omega (arith, c.indices-test.true) in
    record {
      least = kept.least ∙ found_later (heap_graph c.args.heap.now) c.indices.index low (sym c.is_unentered.ensures ∙ c.if-is_unentered.false);
      first = omega (arith, kept.first);
      below = omega (arith, low);
    }

pub returns-then-is_unentered-clause-some : goal.returns-then-is_unentered-clause-some
returns-then-is_unentered-clause-some c =
    let kept = c.indices.invariant in
    let low : c.indices.index < class_limit = omega (arith, c.indices-test.true) in
    (sym (kept.least ∙ found_here (heap_graph c.args.heap.now) c.indices.index low (sym c.is_unentered.ensures ∙ c.if-is_unentered.true)), kept.first, low)

pub returns-clause-none : goal.returns-clause-none
returns-clause-none c =
    let past : class_limit ≤ c.indices.index = omega (arith, c.indices-test.false) in
    c.indices.invariant.least ∙ found_none (heap_graph c.args.heap.now) c.indices.index past
