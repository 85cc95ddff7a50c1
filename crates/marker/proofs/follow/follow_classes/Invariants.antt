use Rattle.marker.specs.Followed.{FollowsPages}
use Rattle.marker.proofs.follow.follow_classes.Given as goal

abbrev pub invariant-pages : goal.invariant-pages
invariant-pages l = record { follows : FollowsPages l.page l.fn.heap l.heap }
