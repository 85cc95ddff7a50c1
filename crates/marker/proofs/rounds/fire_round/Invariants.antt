use Rattle.std.proofs.Common.{◌≤◌}
use Rattle.marker.specs.Firing.{FiresFirst}
use Rattle.marker.proofs.rounds.fire_round.Given as goal

abbrev pub invariant-waiting : goal.invariant-waiting
invariant-waiting l = record {
  fires : FiresFirst l.i l.fn.heap l.fired l.heap;
  low : l.fired ≤ l.i;
}
