use Rattle.std.proofs.Common.{◌-◌, ◌≡◌, ◌≤◌, ℕ}
use Rattle.spur_graph.specs.Places.{place}
use Rattle.image_checks.proofs.walk.walk.Given as goal

abbrev pub invariant-walk : goal.invariant-walk
invariant-walk l = record {
  order : l.at ≤ l.to;
  walked : (k : ℕ) × (place l.words l.fn.from l.to k ≡ l.at);
}

abbrev pub decreases-walk : goal.decreases-walk
decreases-walk l = l.to - l.at
