use Rattle.std.proofs.Common.{◌-◌, length}
use Rattle.marker.specs.Followed.{FollowsBelow}
use Rattle.marker.proofs.follow.follow_objects.Given as goal

abbrev pub invariant-starts : goal.invariant-starts
invariant-starts l = record { follows : FollowsBelow l.at l.fn.heap l.heap }

abbrev pub decreases-starts : goal.decreases-starts
decreases-starts l = length l.fn.heap.words - l.at
