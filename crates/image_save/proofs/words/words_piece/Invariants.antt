use Rattle.std.proofs.Common.{◌≡◌, ◌+◌, ◌*◌, length}
use Rattle.spur_heap.specs.Parts.{view_of}
use Rattle.image_save.specs.Saved.{word_bytes}
use Rattle.image_save.specs.Places.{IsReady}
use Rattle.image_save.proofs.words.words_piece.Given as goal

abbrev pub invariant-words : goal.invariant-words
invariant-words l = record {
  bytes : l.piece.items ≡ word_bytes (view_of l.parts) l.from l.done;
  len : length l.piece.items ≡ 8 * l.done;
  ready : IsReady (view_of l.parts) (l.from + l.done) l.cursor;
}
