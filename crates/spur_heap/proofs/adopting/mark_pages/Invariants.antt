use Rattle.std.proofs.Common.{◌≡◌, ℕ}
use Rattle.heap_walk.specs.Starts.{has_start, covered}
use Rattle.spur_graph.specs.Cells.{any_below}
use Rattle.spur_heap.specs.Counting.{root_names}
use Rattle.spur_heap.proofs.adopting.mark_pages.Given as goal

abbrev pub invariant-places : goal.invariant-places
invariant-places l = record {
  marks : (s : ℕ) → has_start l.starts s ≡ any_below (root_names l.region l.roots l.nil s) l.i;
  covers : covered l.starts ≡ covered l.fn.starts;
}
