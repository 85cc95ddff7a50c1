use Rattle.std.proofs.Common.{◌≡◌, subst, arith}
use Rattle.spur_graph.specs.Ordinary.{page_places}
use Rattle.marker.specs.Roots.{NamedByPage}
use Rattle.marker.specs.Visits.{Among, Visits}
use Rattle.marker.proofs.RootVisits.{visits_page}
use Rattle.marker.proofs.roots.visit_classes.Goals as goal

pub pages-preserved : goal.pages-preserved
pages-preserved c = record { visits = visits_page c.args.heap.now c.pages.heap c.visit_page.new.heap c.pages.page c.pages.invariant.visits c.visit_page.ensures.visits }

pub returns : goal.returns
returns c =
    let end : c.pages.page ≡ page_places = omega (arith, c.pages-test.false, c.pages.auto.page-end) in
    record { visits = subst (λ k. Visits (Among (NamedByPage c.args.heap.now) k) c.args.heap.now c.pages.heap) end c.pages.invariant.visits }
