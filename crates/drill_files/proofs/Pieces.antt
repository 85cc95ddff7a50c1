-- The image cut into its header and pieces of its heap.
use Rattle.std.proofs.Common.{◌≡◌, ◌+◌, ℕ, [], ◌++◌, refl}
use Rattle.std.specs.Int.{w64, to_le_bytes}
use Rattle.spur_io.proofs.Fronts.{ArePieces}
use Rattle.spur_io.proofs.WordBytes.{bytes_more, word_pieces}
use Rattle.spur_graph.specs.BaseImage.{base_word, base_word_count, base_words, base_header, base_image}
use Rattle.drill_files.specs.Written.{word_bytes, image_front}

pub word_bytes_none : (from : ℕ) → word_bytes from 0 ≡ []
unfolding word_bytes
word_bytes_none from = refl

-- a word more
pub word_bytes_more : (from n : ℕ) → word_bytes from (n + 1) ≡ word_bytes from n ++ to_le_bytes w64 (base_word (from + n))
unfolding word_bytes
word_bytes_more from n = bytes_more base_word from n

pub image_pieces : ArePieces base_header image_front word_bytes
unfolding image_front word_bytes
image_pieces = word_pieces base_word base_header

-- the image is one of its fronts
pub image_is : (n : ℕ) × (base_image ≡ image_front n)
unfolding base_image base_words image_front word_bytes
image_is = (base_word_count, refl)
