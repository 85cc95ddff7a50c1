use Rattle.marker.specs.Roots.{NamedByMourner}
use Rattle.marker.specs.Visits.{Among, Visits}
use Rattle.marker.proofs.roots.visit_mourners.Given as goal

abbrev pub invariant-mourners : goal.invariant-mourners
invariant-mourners l = record { visits : Visits (Among (NamedByMourner l.fn.heap) l.i) l.fn.heap l.heap }
