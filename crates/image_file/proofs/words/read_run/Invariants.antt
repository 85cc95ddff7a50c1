use Rattle.std.proofs.Common.{◌≡◌, ◌-◌, ◌+◌, ◌≤◌, ℕ, List, length, take, drop}
use Rattle.image_file.specs.Told.{Tells}
use Rattle.image_file.specs.Held.{HasWords}
use Rattle.image_file.proofs.words.read_run.Given as goal

-- the words so far are those of the file, those outside the run are as before, and no call has failed
abbrev pub invariant-pieces : goal.invariant-pieces
invariant-pieces g l = record {
  told : g.F.Files.told l.files ≡ g.F.Files.told l.fn.files;
  reads : g.F.Files.read_count l.files ≡ g.F.Files.read_count l.fn.files;
  writes : g.F.Files.write_count l.files ≡ g.F.Files.write_count l.fn.files;
  most : l.done ≤ l.count;
  len : length l.region ≡ length l.fn.region;
  front : take l.begin l.region ≡ take l.begin l.fn.region;
  behind : drop (l.begin + l.count) l.region ≡ drop (l.begin + l.count) l.fn.region;
  read : (file : List ℕ) → Tells (g.F.Files.told l.fn.files) l.name file → HasWords file l.at (take l.done (drop l.begin l.region));
}

abbrev pub decreases-pieces : goal.decreases-pieces
decreases-pieces g l = l.count - l.done
