use Rattle.std.proofs.Common.{ap, ◌∙◌}
use Rattle.std.specs.List.{sum}
use Rattle.spur_graph.specs.Spaces.{old_row}
use Rattle.spur_graph.specs.Heaps.{View, heap_room}
use Rattle.free_lists.specs.Rows.{free_runs}
use Rattle.spur_heap.specs.Parts.{view_of, spaces_of}
use Rattle.spur_heap.proofs.Figures.{free_total}
use Rattle.spur_heap.proofs.heap.Heap.free_words.Goals as goal

pub returns : goal.returns
returns c =
    let p = c.self.inside.parts in
    c.total.ensures (free_runs p.region (old_row p.region (spaces_of p))) c.self.invariant.free_chunks.lists ∙ free_total (view_of p) c.self.invariant.whole
    ∙ ap (λ (v : View). sum (heap_room v).free) c.self.view_is
