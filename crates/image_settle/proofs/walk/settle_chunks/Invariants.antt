use Rattle.std.proofs.Common.{◌≡◌, ◌≢◌, ◌-◌, false, length, get_or}
use Rattle.object_header.specs.Head.{class_of}
use Rattle.object_header.specs.Chunks.{chunks}
use Rattle.image_words.specs.References.{Leads}
use Rattle.image_settle.specs.Settles.{IsCleared}
use Rattle.image_settle.proofs.Finding.{NoneBefore}
use Rattle.image_settle.proofs.Walking.{Walking}
use Rattle.image_settle.proofs.walk.settle_chunks.Given as goal

abbrev pub ghost-settle_chunk : goal.ghost-settle_chunk
ghost-settle_chunk g a = g.h

abbrev pub invariant-chunks : goal.invariant-chunks
invariant-chunks g l = record {
  leads : Leads g.h l.words;
  walking : Walking (λ c j w. IsCleared g.h l.fn.words c j w) l.fn.words l.words (chunks l.fn.words) l.at;
  none : NoneBefore g.h l.at;
  found : l.found ≡ false → Walking (λ c j w. class_of (get_or l.fn.words c.start 0) ≢ 8) l.fn.words l.words (chunks l.fn.words) l.at;
}

abbrev pub decreases-chunks : goal.decreases-chunks
decreases-chunks g l = length l.words - l.at
