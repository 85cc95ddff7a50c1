use Rattle.std.proofs.Common.{◌≡◌}
use Rattle.spur_heap.specs.Swaps.{swap_run}
use Rattle.spur_heap.proofs.swapping.swap_runs.Given as goal

abbrev pub invariant-words : goal.invariant-words
invariant-words l = record {
  first_at : l.pair.first_at ≡ l.a;
  first_len : l.pair.first_len ≡ l.n;
  second_at : l.pair.second_at ≡ l.b;
  second_len : l.pair.second_len ≡ l.n;
  name : l.pair.region.ghost_name ≡ l.initial.pair.region.ghost_name;
  run : l.pair.region.now ≡ swap_run l.initial.pair.region.now l.a l.b l.i;
}
