-- The file cut into its header and pieces of its heap.
use Rattle.std.proofs.Common.{◌≡◌, ◌+◌, ℕ, [], ◌++◌, refl, sym, ap}
use Rattle.std.specs.Int.{w64, to_le_bytes}
use Rattle.spur_io.proofs.Fronts.{ArePieces}
use Rattle.spur_io.proofs.WordBytes.{bytes_more, word_pieces}
use Rattle.spur_graph.specs.Heaps.{View}
use Rattle.image_header.specs.Headers.{written}
use Rattle.image_save.specs.Saved.{saved_word, word_bytes, saved_head, saved_front, saved_text, file_words}

pub word_bytes_none : (v : View) → (from : ℕ) → word_bytes v from 0 ≡ []
unfolding word_bytes
word_bytes_none v from = refl

-- a word more
pub word_bytes_more : (v : View) → (from n : ℕ) → word_bytes v from (n + 1) ≡ word_bytes v from n ++ to_le_bytes w64 (saved_word v (from + n))
unfolding word_bytes
word_bytes_more v from n = bytes_more (saved_word v) from n

pub saved_pieces : (v : View) → ArePieces (written (saved_head v)) (saved_front v) (word_bytes v)
unfolding saved_front word_bytes
saved_pieces v = word_pieces (saved_word v) (written (saved_head v))

-- the text is the front of all words, with the bridge
pub text_is : (v : View) (words : ℕ) → words ≡ file_words v → saved_text v ≡ saved_front v (words + 2)
unfolding saved_text
text_is v words e = ap (λ n. saved_front v (n + 2)) (sym e)
