use Rattle.std.proofs.Common.{◌≡◌, ◌+◌, ◌/◌, ap, arith, get_or}
use Rattle.spur_graph.specs.Cells.{first}
use Rattle.spur_graph.specs.Heaps.{store_of}
use Rattle.spur_heap.specs.Parts.{view_of}
use Rattle.spur_heap.proofs.Pages.{root_place}
use Rattle.spur_heap.proofs.InternalMarks.{page_below, internal_marked}
use Rattle.spur_heap.proofs.adopting.mark_internal.Goals as goal

pub mark_pages-requires-clause-inside : goal.mark_pages-requires-clause-inside
mark_pages-requires-clause-inside c =
    let far = (root_place (view_of c.args.parts.now) c.requires.sound 4103 (omega arith)).0 in
    let roots = c.first_start-roots.ensures.start in
    omega (arith, roots, far)

pub mark_pages-requires-clause-pages : goal.mark_pages-requires-clause-pages
mark_pages-requires-clause-pages c = λ i l other.
    let roots = c.first_start-roots.ensures.start in
    let low = page_below (view_of c.args.parts.now) c.requires.sound i l in
    let same : get_or c.args.parts.now.region (c.first_start-roots.result + 1 + i) 0 / 8 ≡ get_or c.args.parts.now.region (first (store_of (view_of c.args.parts.now)) 4 + 1 + i) 0 / 8 =
    ap (λ n. get_or c.args.parts.now.region (n + 1 + i) 0 / 8) roots in
    omega (arith, low, same, c.requires.covers)

pub returns-clause-marks : goal.returns-clause-marks
returns-clause-marks c =
    internal_marked (view_of c.args.parts.now) c.requires.sound c.mark_pages.new.starts c.set.new.self c.set-2.new.self c.first_start-lists.result c.first_start-roots.result c.first_word-nil.result
    c.first_start-lists.ensures.start c.first_start-roots.ensures.start c.first_word-nil.ensures.word c.mark_pages.ensures.marks c.set.ensures.added c.set.ensures.others c.set-2.ensures.added c.set-2.ensures.others
