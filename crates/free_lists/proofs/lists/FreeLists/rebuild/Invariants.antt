use Rattle.std.proofs.Common.{◌≡◌, ◌-◌, List, length}
use Rattle.object_header.specs.Chunks.{Chunk, Cuts}
use Rattle.free_lists.proofs.Rebuilt.{IsWalked}
use Rattle.free_lists.proofs.lists.FreeLists.rebuild.Given as goal

abbrev pub invariant-chunks : goal.invariant-chunks
invariant-chunks l = record {
  same_length : length l.region ≡ length l.fn.region;
  walked : (cs : List Chunk) → Cuts l.fn.region l.fn.from l.to cs → IsWalked l.fn.region l.region l.self l.at l.to cs;
}

abbrev pub decreases-chunks : goal.decreases-chunks
decreases-chunks l = l.to - l.at
