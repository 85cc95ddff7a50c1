use Rattle.std.proofs.Common.{◌-◌, length}
use Rattle.marker.specs.Firing.{Gathers}
use Rattle.marker.proofs.rounds.gather_dying.Given as goal

abbrev pub invariant-starts : goal.invariant-starts
invariant-starts l = record { gathers : Gathers l.at l.fn.heap l.heap }

abbrev pub decreases-starts : goal.decreases-starts
decreases-starts l = length l.fn.heap.words - l.at
