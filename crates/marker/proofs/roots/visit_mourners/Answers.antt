use Rattle.std.proofs.Common.{◌≡◌, ℕ, List, length, ap, subst, arith}
use Rattle.spur_graph.specs.Heaps.{waiting_in}
use Rattle.spur_heap.proofs.Mourned.{waiting_count}
use Rattle.marker.specs.Roots.{NamedByMourner}
use Rattle.marker.specs.Visits.{Among, Visits}
use Rattle.marker.proofs.RootVisits.{same_mourners, visits_mourner}
use Rattle.marker.proofs.roots.visit_mourners.Goals as goal

pub mourner-word-requires : goal.mourner-word-requires
mourner-word-requires c =
    let same = ap (λ (groups : List (List ℕ)). length (waiting_in groups)) (same_mourners c.mourners.invariant.visits.keeps) in
    let count = waiting_count c.args.heap.now in
    omega (arith, same, count, c.mourner_count-i-end.ensures, c.mourners-test.true)

pub mourners-preserved : goal.mourners-preserved
mourners-preserved c = record {
  visits = visits_mourner c.args.heap.now c.mourners.heap c.visit.new.heap c.mourners.i c.mourner-word.result c.mourners.invariant.visits c.mourner-word.ensures.word c.visit.ensures.visits;
}

pub returns : goal.returns
returns c =
    let count = waiting_count c.args.heap.now in
    let end : c.mourners.i ≡ length (waiting_in c.args.heap.now.mourners) = omega (arith, count, c.mourner_count-i-end.ensures, c.mourners-test.false, c.mourners.auto.i-end) in
    record { visits = subst (λ k. Visits (Among (NamedByMourner c.args.heap.now) k) c.args.heap.now c.mourners.heap) end c.mourners.invariant.visits }
