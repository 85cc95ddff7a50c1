use Rattle.spur_heap.specs.Following.{FollowsEntries}
use Rattle.spur_heap.proofs.mourners.follow_entries.Given as goal

abbrev pub invariant-entries : goal.invariant-entries
invariant-entries l = FollowsEntries l.i l.fn.parts l.parts
