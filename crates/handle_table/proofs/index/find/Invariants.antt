use Rattle.std.proofs.Common.{◌≢◌, ℕ, ◌<◌, ◌≤◌, ◌-◌, slice_index}
use Rattle.handle_table.specs.Slots.{home_of, key_at, IsReached}
use Rattle.handle_table.proofs.index.find.Given as goal

abbrev pub invariant-probes : goal.invariant-probes
invariant-probes l = record {
  within : l.at < 196608;
  reached : IsReached l.slots (home_of (l.mutator, l.name.bytes)) l.at;
  missed : (j : ℕ) → home_of (l.mutator, l.name.bytes) ≤ j → j < l.at → key_at l.held (slice_index l.slots j - 1) ≢ (l.mutator, l.name.bytes);
}

abbrev pub decreases-probes : goal.decreases-probes
decreases-probes l = 196608 - l.at
