use Rattle.marker.specs.Roots.{NamedByEntry}
use Rattle.marker.specs.Visits.{Among, Visits}
use Rattle.marker.proofs.roots.visit_page.Given as goal

abbrev pub invariant-entries : goal.invariant-entries
invariant-entries l = record { visits : Visits (Among (NamedByEntry l.fn.heap l.first) l.i) l.fn.heap l.heap }
