use Rattle.std.proofs.Common.{◌-◌, ◌≡◌, ◌≤◌}
use Rattle.spur_io.specs.Store.{Changes}
use Rattle.spur_io.proofs.Fronts.{IsFront}
use Rattle.drill_files.specs.Written.{image_front}
use Rattle.drill_files.proofs.image_writer.write_base_image.Given as goal

abbrev pub invariant-pieces : goal.invariant-pieces
invariant-pieces g l = record {
  front : Changes (g.F.Files.told l.fn.files) (g.F.Files.told l.files) l.name (IsFront image_front l.written);
  within : l.written ≤ l.end;
  writes : g.F.Files.write_count l.files ≡ g.F.Files.write_count l.fn.files;
  reads : g.F.Files.read_count l.files ≡ g.F.Files.read_count l.fn.files;
}

abbrev pub decreases-pieces : goal.decreases-pieces
decreases-pieces g l = l.end - l.written
