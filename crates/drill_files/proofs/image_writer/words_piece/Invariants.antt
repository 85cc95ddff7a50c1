use Rattle.std.proofs.Common.{◌≡◌, ◌*◌, length}
use Rattle.drill_files.specs.Written.{word_bytes}
use Rattle.drill_files.proofs.image_writer.words_piece.Given as goal

abbrev pub invariant-words : goal.invariant-words
invariant-words l = record {
  bytes : l.piece.items ≡ word_bytes l.from l.done;
  len : length l.piece.items ≡ 8 * l.done;
}
