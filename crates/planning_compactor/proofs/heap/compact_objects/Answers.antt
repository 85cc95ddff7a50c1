use Rattle.std.proofs.Common.{◌≡◌, ◌≢◌, ◌<◌, ℕ, List, length, get_or, sym, ap, ◌∙◌, subst, Some}
use Rattle.std.specs.FinMap.{get}
use Rattle.spur_graph.specs.Graph.{Handle}
use Rattle.heap_walk.specs.Starts.{has_start}
use Rattle.handle_table.specs.Handles.{held}
use Rattle.planning_compactor.proofs.HeapAgain.{AreRelisted, HoldsEach, IsSweptOf, can-swept, chunks, compacts-again, cut, map-again, parts-again, places-again, whole-again}
use Rattle.planning_compactor.proofs.heap.compact_objects.Goals as goal

pub compact_ranges-ends-requires-clause-can : goal.compact_ranges-ends-requires-clause-can
compact_ranges-ends-requires-clause-can c =
    let q = c.sweep_parts.new.parts in
    let e = c.sweep_parts.ensures in
    let each : HoldsEach q = subst (λ ws. (i : ℕ) → i < length ws → (h : Handle) × (get (held q.handles) h ≡ Some (get_or ws i 0))) c.words-held.ensures.words c.words-held.ensures.each in
    can-swept c.requires.heap c.requires.tight (record { starts = e.starts; covers = e.covers; count = e.count; rest = e.rest }) c.ranges_of-ranges.result c.ranges_of-ranges.ensures each

pub rebuild-requires-clause-row : goal.rebuild-requires-clause-row
rebuild-requires-clause-row c =
    let e = c.sweep_parts.ensures in
    let s : IsSweptOf c.args.parts.now c.sweep_parts.new.parts = record { starts = e.starts; covers = e.covers; count = e.count; rest = e.rest } in (
      chunks c.requires.heap c.requires.tight s c.ranges_of-ranges.result c.ranges_of-ranges.ensures c.compact_ranges-ends.ensures,
      cut c.requires.heap c.requires.tight s c.ranges_of-ranges.result c.ranges_of-ranges.ensures c.compact_ranges-ends.ensures,
    )

-- the parts are swept, and the lists and the map are made again
swept : (c : goal.After-parts-3-1) → IsSweptOf c.args.parts.now c.sweep_parts.new.parts
swept c = let e = c.sweep_parts.ensures in record { starts = e.starts; covers = e.covers; count = e.count; rest = e.rest }

relisted : (c : goal.After-parts-3-1) → AreRelisted c.requires.heap c.requires.tight (swept c) c.ranges_of-ranges.result c.ranges_of-ranges.ensures c.compact_ranges-ends.ensures c.rebuild.new.region c.rebuild.new.self c.set.new.self
relisted c =
    let row = chunks c.requires.heap c.requires.tight (swept c) c.ranges_of-ranges.result c.ranges_of-ranges.ensures c.compact_ranges-ends.ensures in
    let cuts = cut c.requires.heap c.requires.tight (swept c) c.ranges_of-ranges.result c.ranges_of-ranges.ensures c.compact_ranges-ends.ensures in
    record {
      lists = c.rebuild.ensures.rebuilt row cuts;
      cuts = c.rebuild.ensures.row row cuts;
      long = c.rebuild.ensures.same_length;
      others = c.rebuild.ensures.others row cuts;
      here = ap (has_start c.set.new.self) (sym c.first_start-lists.ensures.start) ∙ c.set.ensures.added;
      else = λ x n. c.set.ensures.others x (λ is. n (is ∙ c.first_start-lists.ensures.start));
      covers = c.set.ensures.covers;
    }

pub returns-clause-whole : goal.returns-clause-whole
returns-clause-whole c = whole-again c.requires.heap c.requires.tight (swept c) c.ranges_of-ranges.result c.ranges_of-ranges.ensures c.compact_ranges-ends.ensures (relisted c)

pub returns-clause-map : goal.returns-clause-map
returns-clause-map c = map-again c.requires.heap c.requires.tight (swept c) c.ranges_of-ranges.result c.ranges_of-ranges.ensures c.compact_ranges-ends.ensures (relisted c)

pub returns-clause-places : goal.returns-clause-places
returns-clause-places c = places-again c.requires.heap c.requires.tight (swept c) c.ranges_of-ranges.result c.ranges_of-ranges.ensures c.compact_ranges-ends.ensures (relisted c)

pub returns-clause-heap : goal.returns-clause-heap
returns-clause-heap c = parts-again c.requires.heap c.requires.tight (swept c) c.ranges_of-ranges.result c.ranges_of-ranges.ensures c.compact_ranges-ends.ensures (relisted c)

pub returns-clause-compacts : goal.returns-clause-compacts
returns-clause-compacts c = compacts-again c.requires.heap c.requires.tight (swept c) c.ranges_of-ranges.result c.ranges_of-ranges.ensures c.compact_ranges-ends.ensures (relisted c)
