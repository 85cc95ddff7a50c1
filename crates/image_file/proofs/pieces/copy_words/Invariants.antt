use Rattle.std.proofs.Common.{◌≡◌, ◌-◌, ◌*◌, ◌++◌, length, take}
use Rattle.spur_graph.specs.Bytes.{words_in}
use Rattle.image_file.proofs.pieces.copy_words.Given as goal

-- the words so far are those of the bytes so far
abbrev pub invariant-words : goal.invariant-words
invariant-words l = record {
  words : take l.word-index l.words ++ words_in l.rest ≡ words_in l.fn.bytes;
  rest : length l.rest ≡ 8 * (length l.words - l.word-index);
}
