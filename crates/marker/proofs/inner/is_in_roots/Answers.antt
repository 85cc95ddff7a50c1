use Rattle.std.proofs.Common.{◌*◌, ◌<◌, refl, sym, ◌∙◌, arith}
use Rattle.std.proofs.lemmas.Bool.{eq-eqb, ne_eqb}
use Rattle.spur_graph.specs.Cells.{any_below}
use Rattle.spur_graph.specs.Ordinary.{page_places, tells}
use Rattle.spur_graph.specs.Heaps.{store_of}
use Rattle.heap_cells.proofs.Below.{any_below-has}
use Rattle.spur_heap.specs.Parts.{view_of}
use Rattle.spur_heap.proofs.Pages.{root_place}
use Rattle.marker.proofs.PageStarts.{word_tells, none_more}
use Rattle.marker.proofs.inner.is_in_roots.Goals as goal

pub places-init : goal.places-init
unfolding any_below
places-init c = record { none = refl }

pub get-requires : goal.get-requires
get-requires c =
    let inside = (root_place (view_of c.args.parts.now) c.requires.sound c.places.i (omega (arith, c.places-test.true))).0 in
    omega (arith, inside, c.first_start-roots.ensures.start)

pub returns-then-get-start : goal.returns-then-get-start
returns-then-get-start c =
    let l : c.places.i < page_places = omega (arith, c.places-test.true) in
    let told = word_tells (view_of c.args.parts.now) c.requires.sound c.args.start c.first_start-roots.result c.get.result c.places.i l c.first_start-roots.ensures.start c.get.ensures in
    sym (any_below-has (λ i. tells (store_of (view_of c.args.parts.now)) i c.args.start) page_places c.places.i l (sym told ∙ eq-eqb c.get.result (8 * c.args.start) c.if-get-start.true))

pub places-preserved : goal.places-preserved
places-preserved c =
    let l : c.places.i < page_places = omega (arith, c.places-test.true) in
    let told = word_tells (view_of c.args.parts.now) c.requires.sound c.args.start c.first_start-roots.result c.get.result c.places.i l c.first_start-roots.ensures.start c.get.ensures in
    record { none = none_more (λ i. tells (store_of (view_of c.args.parts.now)) i c.args.start) c.places.i c.places.invariant.none (sym told ∙ ne_eqb c.get.result (8 * c.args.start) c.if-get-start.false) }
