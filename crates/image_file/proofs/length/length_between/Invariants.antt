use Rattle.std.proofs.Common.{◌≡◌, ◌-◌, ◌≤◌, ◌<◌, ◌^◌, ℕ, List, length}
use Rattle.image_file.specs.Told.{Tells}
use Rattle.image_file.proofs.length.length_between.Given as goal

-- the length is between the two bounds, and no call has failed
abbrev pub invariant-halves : goal.invariant-halves
invariant-halves g l = record {
  told : g.F.Files.told l.files ≡ g.F.Files.told l.fn.files;
  reads : g.F.Files.read_count l.files ≡ g.F.Files.read_count l.fn.files;
  writes : g.F.Files.write_count l.files ≡ g.F.Files.write_count l.fn.files;
  order : l.low ≤ l.high;
  near : l.high < 2 ^ 63;
  least : (file : List ℕ) → Tells (g.F.Files.told l.fn.files) l.fn.name file → l.fn.least ≤ length file → length file ≤ l.fn.most → l.low ≤ length file;
  most : (file : List ℕ) → Tells (g.F.Files.told l.fn.files) l.fn.name file → l.fn.least ≤ length file → length file ≤ l.fn.most → length file ≤ l.high;
}

abbrev pub decreases-halves : goal.decreases-halves
decreases-halves g l = l.high - l.low
