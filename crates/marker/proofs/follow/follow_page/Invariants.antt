use Rattle.marker.specs.Followed.{FollowsPage}
use Rattle.marker.proofs.follow.follow_page.Given as goal

abbrev pub invariant-entries : goal.invariant-entries
invariant-entries l = record { follows : FollowsPage l.first l.i l.fn.heap l.heap }
