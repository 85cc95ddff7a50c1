use Rattle.std.proofs.Common.{◌/◌, ℕ, subst, sym}
use Rattle.spur_graph.specs.Cells.{final}
use Rattle.spur_graph.specs.Heaps.{store_of}
use Rattle.heap_cells.proofs.CellKinds.{there_starts}
use Rattle.spur_heap.specs.Parts.{view_of}
use Rattle.spur_heap.proofs.Hops.{end_there}
use Rattle.image_save.specs.Places.{HasPlace}
use Rattle.image_save.proofs.Parts.{start_has_place, whole_sound}
use Rattle.image_save.proofs.words.saved_value.Goals as goal

pub file_place-requires-clause-has : goal.file_place-requires-clause-has
file_place-requires-clause-has c =
    let v = view_of c.args.parts.now in
    let s : ℕ = final (store_of v) (c.args.word / 8) in
    subst (HasPlace v) (sym c.follow_start-start.ensures)
    (start_has_place v c.requires.whole s (there_starts ((store_of v).cell s) (end_there v (whole_sound v c.requires.whole) (c.args.word / 8) (c.requires.value c.if-word-ne0.false))))
