use Rattle.std.proofs.Common.{◌≡◌, ◌*◌, ◌/◌, ◌<◌, ◌≤◌, ℕ, length, slice_index}
use Rattle.planning_compactor.specs.Readdressed.{moved_word}
use Rattle.spur_heap.specs.Tables.{begins, start_in}
use Rattle.planning_compactor.proofs.roots.readdress_mourners.Given as goal

abbrev pub invariant-mourners : goal.invariant-mourners
invariant-mourners l = record {
  same : length l.mourners ≡ length l.fn.mourners;
  starts : (k : ℕ) → k < l.i → start_in (slice_index l.mourners k) ≡ moved_word l.words l.low l.high (8 * start_in (slice_index l.fn.mourners k)) / 8;
  groups : (k : ℕ) → k < l.i → begins (slice_index l.mourners k) ≡ begins (slice_index l.fn.mourners k);
  rest : (k : ℕ) → l.i ≤ k → slice_index l.mourners k ≡ slice_index l.fn.mourners k;
}
