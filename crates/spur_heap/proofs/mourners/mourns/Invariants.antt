use Rattle.std.proofs.Common.{◌≢◌, ◌≤◌, ◌<◌, ℕ, get_or}
use Rattle.spur_graph.specs.Cells.{final}
use Rattle.spur_graph.specs.Heaps.{store_of}
use Rattle.spur_heap.specs.Tables.{start_in}
use Rattle.spur_heap.specs.Parts.{view_of}
use Rattle.spur_heap.proofs.mourners.mourns.Given as goal

abbrev pub invariant-entries : goal.invariant-entries
invariant-entries l = (k : ℕ) → l.parts.mourned ≤ k → k < l.i → final (store_of (view_of l.parts)) (start_in (get_or l.entries k 0)) ≢ l.start
