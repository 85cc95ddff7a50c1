use Rattle.std.proofs.Common.{◌-◌, ◌≡◌, length}
use Rattle.object_header.specs.Chunks.{row}
use Rattle.heap_walk.specs.Starts.{covered}
use Rattle.spur_heap.proofs.Counted.{IsCounted}
use Rattle.spur_heap.proofs.adopting.enter_chunks.Given as goal

abbrev pub invariant-chunks : goal.invariant-chunks
invariant-chunks l = record {
  counted : IsCounted l.region l.at l.end (row l.region 0 l.end) l.fn.starts l.starts l.objects;
  covers : covered l.starts ≡ length l.region;
}

abbrev pub decreases-chunks : goal.decreases-chunks
decreases-chunks l = l.end - l.at
