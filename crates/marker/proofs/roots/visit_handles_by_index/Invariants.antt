use Rattle.marker.specs.Roots.{MarkedOf, NamedByHandle}
use Rattle.marker.specs.Visits.{Visits}
use Rattle.marker.proofs.roots.visit_handles_by_index.Given as goal

abbrev pub invariant-handles : goal.invariant-handles
invariant-handles l = record { visits : Visits (MarkedOf (NamedByHandle l.fn.heap) l.heap) l.fn.heap l.heap }
