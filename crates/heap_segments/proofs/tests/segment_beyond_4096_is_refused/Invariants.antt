use Rattle.std.proofs.Common.{◌≤◌, ◌+◌, ◌*◌}
use Rattle.heap_segments.specs.Rising.{end_address}
use Rattle.heap_segments.proofs.tests.segment_beyond_4096_is_refused.Given as goal

abbrev pub invariant-fill : goal.invariant-fill
invariant-fill g l = end_address 0 l.map ≤ 1048576 + 64 * l.i
