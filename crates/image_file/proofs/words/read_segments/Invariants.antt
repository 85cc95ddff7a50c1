use Rattle.std.proofs.Common.{◌≡◌, ℕ, List, length, take, drop}
use Rattle.std.specs.List.{flat_map}
use Rattle.spur_graph.specs.Segments.{segment_words, total_words}
use Rattle.image_file.specs.Told.{Tells}
use Rattle.image_file.proofs.words.read_segments.Given as goal

-- the words so far are those of the segments so far, those behind all are as before, and no call has failed
abbrev pub invariant-segments : goal.invariant-segments
invariant-segments g l = record {
  told : g.F.Files.told l.files ≡ g.F.Files.told l.fn.files;
  reads : g.F.Files.read_count l.files ≡ g.F.Files.read_count l.fn.files;
  writes : g.F.Files.write_count l.files ≡ g.F.Files.write_count l.fn.files;
  len : length l.region ≡ length l.fn.region;
  behind : drop (total_words l.fn.map) l.region ≡ drop (total_words l.fn.map) l.fn.region;
  words : (file : List ℕ) → Tells (g.F.Files.told l.fn.files) l.name file → take (total_words (take l.i l.fn.map)) l.region ≡ flat_map (segment_words file) (take l.i l.fn.map);
}
