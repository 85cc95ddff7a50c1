use Rattle.std.proofs.Common.{◌≡◌}
use Rattle.spur_graph.specs.Heaps.{store_of}
use Rattle.heap_cells.specs.Settled.{settled_word, map_front}
use Rattle.spur_heap.specs.Parts.{view_of}
use Rattle.spur_heap.proofs.follow.follow_held.Given as goal

abbrev pub invariant-handles : goal.invariant-handles
invariant-handles l =
    l.parts ≡ record l.fn.parts { handles = record l.fn.parts.handles { words = map_front (settled_word (store_of (view_of l.fn.parts))) l.i l.fn.parts.handles.words } }
