use Rattle.std.proofs.Common.{◌-◌}
use Rattle.object_header.specs.Chunks.{row}
use Rattle.spur_heap.proofs.Cleared.{IsCleared}
use Rattle.spur_heap.proofs.clearing.clear_row.Given as goal

abbrev pub invariant-chunks : goal.invariant-chunks
invariant-chunks l = record { cleared : IsCleared l.fn.region l.region l.at l.end (row l.fn.region l.from l.end) }

abbrev pub decreases-chunks : goal.decreases-chunks
decreases-chunks l = l.end - l.at
