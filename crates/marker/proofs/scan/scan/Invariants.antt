use Rattle.marker.specs.Visits.{NamesBelow, Visits}
use Rattle.marker.proofs.scan.scan.Given as goal

abbrev pub invariant-slots : goal.invariant-slots
invariant-slots l = record { visits : Visits (NamesBelow l.fn.heap l.start l.i) l.fn.heap l.heap }
