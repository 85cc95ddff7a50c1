use Rattle.std.proofs.Common.{◌≡◌, ◌<◌, ◌≤◌, ℕ, length, slice_index}
use Rattle.planning_compactor.specs.Readdressed.{moved_word}
use Rattle.planning_compactor.proofs.roots.readdress_words.Given as goal

abbrev pub invariant-roots : goal.invariant-roots
invariant-roots l = record {
  same : length l.roots ≡ length l.fn.roots;
  moved : (k : ℕ) → k < l.i → slice_index l.roots k ≡ moved_word l.words l.low l.high (slice_index l.fn.roots k);
  rest : (k : ℕ) → l.i ≤ k → slice_index l.roots k ≡ slice_index l.fn.roots k;
}
