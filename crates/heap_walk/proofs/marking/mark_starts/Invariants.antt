use Rattle.std.proofs.Common.{◌-◌, ◌≡◌, length}
use Rattle.object_header.specs.Chunks.{row}
use Rattle.heap_walk.specs.Starts.{covered}
use Rattle.heap_walk.proofs.Walked.{IsWalked}
use Rattle.heap_walk.proofs.marking.mark_starts.Given as goal

abbrev pub invariant-chunks : goal.invariant-chunks
invariant-chunks l = record {
  walked : IsWalked l.words l.at l.end (row l.words 0 l.end) l.starts;
  covers : covered l.starts ≡ length l.words;
}

abbrev pub decreases-chunks : goal.decreases-chunks
decreases-chunks l = l.end - l.at
