use Rattle.std.proofs.Common.{◌≡◌, ◌<◌, ◌+◌, ◌/◌, get_or, refl, sym, ap, subst, arith, ◌∙◌}
use Rattle.object_header.specs.Head.{class_of}
use Rattle.spur_graph.specs.Heaps.{store_of}
use Rattle.heap_cells.proofs.Chains.{final-end}
use Rattle.spur_graph.specs.Cells.{final}
use Rattle.spur_heap.specs.Words.{starts_at}
use Rattle.spur_heap.specs.Parts.{view_of}
use Rattle.spur_heap.proofs.Hops.{hops, start_at, moved_by, stays_by, hop_at}
use Rattle.spur_heap.proofs.chains.follow_start.Goals as goal

pub hops-init : goal.hops-init
hops-init c = record { there = c.requires.there; same = refl; inside = (start_at (view_of c.args.parts.now) c.requires.sound c.args.start c.requires.there).below }

pub hops-smaller : goal.hops-smaller
hops-smaller c =
    let v = view_of c.args.parts.now in
    let on = moved_by v c.requires.sound c.hops.at c.class.result c.hops.invariant.there (c.class.ensures.value ∙ ap class_of c.get.ensures) c.hops-test.true in
    subst (λ w. hops v (w / 8) < hops v c.hops.at) (sym c.get-in-hops.ensures) (hop_at v c.requires.sound c.hops.at on).fewer

pub hops-preserved : goal.hops-preserved
hops-preserved c =
    let v = view_of c.args.parts.now in
    let on = moved_by v c.requires.sound c.hops.at c.class.result c.hops.invariant.there (c.class.ensures.value ∙ ap class_of c.get.ensures) c.hops-test.true in
    let hop = hop_at v c.requires.sound c.hops.at on in
    let next : c.get-in-hops.result / 8 ≡ get_or c.args.parts.now.region (c.hops.at + 1) 0 / 8 = ap (λ w. w / 8) c.get-in-hops.ensures in
    let low = (start_at v c.requires.sound (get_or c.args.parts.now.region (c.hops.at + 1) 0 / 8) hop.starts).below in
    record {
      there = ap (starts_at v) next ∙ hop.starts;
      same = ap (final (store_of v)) next ∙ hop.same ∙ c.hops.invariant.same;
      inside = omega (arith, next, low);
    }

pub returns : goal.returns
returns c =
    let off = stays_by (view_of c.args.parts.now) c.requires.sound c.hops.at c.class.result c.hops.invariant.there (c.class.ensures.value ∙ ap class_of c.get.ensures) c.hops-test.false in
    sym (final-end (store_of (view_of c.args.parts.now)) c.hops.at off) ∙ c.hops.invariant.same
