use Rattle.marker.specs.Roots.{NamedByPage}
use Rattle.marker.specs.Visits.{Among, Visits}
use Rattle.marker.proofs.roots.visit_classes.Given as goal

abbrev pub invariant-pages : goal.invariant-pages
invariant-pages l = record { visits : Visits (Among (NamedByPage l.fn.heap) l.page) l.fn.heap l.heap }
