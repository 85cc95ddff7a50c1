use Rattle.std.proofs.Common.{◌≡◌, ◌<◌, ◌≤◌, ◌-◌, ℕ, false}
use Rattle.heap_walk.specs.Starts.{has_start, covered}
use Rattle.heap_walk.proofs.starts.StartMap.next.Given as goal

abbrev pub invariant-words : goal.invariant-words
invariant-words l = record {
  behind : l.from ≤ l.at;
  none : (k : ℕ) → l.from ≤ k → k < l.at → has_start l.self k ≡ false;
}

abbrev pub decreases-words : goal.decreases-words
decreases-words l = covered l.self - l.at
