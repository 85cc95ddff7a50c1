use Rattle.std.specs.Prelude.{slice_index}
use Rattle.marker.specs.Roots.{NamedByWord}
use Rattle.marker.specs.Visits.{Among, Visits}
use Rattle.marker.proofs.roots.visit_all.Given as goal

abbrev pub invariant-words : goal.invariant-words
invariant-words l = record { visits : Visits (Among (λ i. NamedByWord l.fn.heap (slice_index l.words i)) l.i) l.fn.heap l.heap }
