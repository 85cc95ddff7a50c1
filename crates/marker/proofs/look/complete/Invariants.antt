use Rattle.std.proofs.Common.{◌+◌, length}
use Rattle.marker.specs.Visits.{Works, unmarked}
use Rattle.marker.proofs.look.complete.Given as goal

abbrev pub invariant-rounds : goal.invariant-rounds
invariant-rounds l = record { works : Works l.except l.fn.heap l.heap }

abbrev pub decreases-rounds : goal.decreases-rounds
decreases-rounds l = unmarked l.heap + length l.heap.stack
