use Rattle.std.proofs.Common.{◌-◌, ◌≡◌, ◌≤◌}
use Rattle.spur_io.specs.Store.{Changes}
use Rattle.spur_io.proofs.Fronts.{IsFront}
use Rattle.spur_heap.specs.Parts.{view_of}
use Rattle.image_save.specs.Saved.{saved_front}
use Rattle.image_save.specs.Places.{IsReady}
use Rattle.image_save.proofs.saver.save_parts.Given as goal

abbrev pub invariant-pieces : goal.invariant-pieces
invariant-pieces g l = record {
  front : Changes (g.F.Files.told l.fn.files) (g.F.Files.told l.files) l.name (IsFront (saved_front (view_of l.parts)) l.done);
  within : l.done ≤ l.end;
  ready : IsReady (view_of l.parts) l.done l.cursor;
  writes : g.F.Files.write_count l.files ≡ g.F.Files.write_count l.fn.files;
  reads : g.F.Files.read_count l.files ≡ g.F.Files.read_count l.fn.files;
}

abbrev pub decreases-pieces : goal.decreases-pieces
decreases-pieces g l = l.end - l.done
