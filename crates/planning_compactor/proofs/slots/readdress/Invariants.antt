use Rattle.std.proofs.Common.{◌-◌, ◌<◌, ◌≤◌, ℕ, length}
use Rattle.heap_walk.specs.Starts.{has_start}
use Rattle.planning_compactor.specs.Entries.{start_of}
use Rattle.planning_compactor.specs.Readdressed.{Readdressed}
use Rattle.planning_compactor.proofs.slots.readdress.Given as goal

abbrev pub invariant-objects : goal.invariant-objects
invariant-objects l = record {
  order : l.at ≤ length l.words;
  part : Readdressed (has_start l.starts) l.fn.table l.table l.fn.words l.words l.low l.high l.at;
  before : (m : ℕ) → m < l.k → m < length l.table → start_of l.table m < l.at;
  ahead : (m : ℕ) → l.k ≤ m → m < length l.table → l.at ≤ start_of l.table m;
  few : l.k ≤ l.at;
}

abbrev pub decreases-objects : goal.decreases-objects
decreases-objects l = length l.words - l.at
