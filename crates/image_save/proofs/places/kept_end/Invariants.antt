use Rattle.std.proofs.Common.{◌≡◌, ◌≤◌, ◌-◌}
use Rattle.object_header.specs.Chunks.{Cuts, row}
use Rattle.image_save.specs.Saved.{kept_from}
use Rattle.image_save.proofs.places.kept_end.Given as goal

abbrev pub invariant-chunks : goal.invariant-chunks
invariant-chunks l = record {
  cuts : Cuts l.words l.at l.end (row l.words l.at l.end);
  rest : kept_from l.words l.kept (row l.words l.at l.end) ≡ kept_from l.words 0 (row l.words 0 l.end);
  low : l.at ≤ l.end;
}

abbrev pub decreases-chunks : goal.decreases-chunks
decreases-chunks l = l.end - l.at
