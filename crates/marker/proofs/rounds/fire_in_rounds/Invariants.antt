use Rattle.std.proofs.Common.{◌-◌, ◌/◌, length}
use Rattle.spur_graph.specs.Heaps.{waiting_in}
use Rattle.marker.specs.Firing.{Firing}
use Rattle.marker.proofs.rounds.fire_in_rounds.Given as goal

abbrev pub invariant-rounds : goal.invariant-rounds
invariant-rounds l = record { firing : Firing l.fn.heap l.fired l.heap }

abbrev pub decreases-rounds : goal.decreases-rounds
decreases-rounds l = length l.fn.heap.words / 2 - length (waiting_in l.heap.mourners)
