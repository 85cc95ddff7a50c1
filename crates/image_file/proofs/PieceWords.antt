-- The words of some bytes, piece by piece.
use Rattle.std.proofs.Common.{◌≡◌, ℕ, zero, suc, ◌+◌, ◌*◌, ◌≤◌, List, [], ◌∷◌, ◌++◌, length, take, drop, arith, sym, ap, ◌∙◌, ◌<◌, length-take, length-drop, length-append, slice_index_or}
use Rattle.std.proofs.lemmas.List.{nil_from_length, drop-append-le, take-append-le, take_all, drop-drop, drop-take, take-take}
use Rattle.std.proofs.Math.Seq.{take-add}
use Rattle.std.specs.Int.{w64, from_le_bytes}
use Rattle.spur_graph.specs.Bytes.{words_in, number}
use Rattle.heap_segments.proofs.ByteWords.{words_in_cut, words_in_short}
use Rattle.image_file.specs.Held.{HasWords}

-- whole words before others
pub words_in-append : (n : ℕ) (xs ys : List ℕ) → length xs ≡ 8 * n → words_in (xs ++ ys) ≡ words_in xs ++ words_in ys
words_in-append zero xs ys is =
    let none : xs ≡ [] = nil_from_length xs (omega arith) in
    ap (λ zs. words_in (zs ++ ys)) none ∙ sym (ap (λ zs. zs ++ words_in ys) (ap words_in none ∙ words_in_short [] (omega arith)))
words_in-append (suc n) xs ys is =
    let eight : 8 ≤ length xs = omega arith in
    let rest : words_in (drop 8 xs ++ ys) ≡ words_in (drop 8 xs) ++ words_in ys = words_in-append n (drop 8 xs) ys (omega (arith, length-drop 8 xs)) in
    words_in_cut (xs ++ ys) (omega (arith, length-append xs ys))
    ∙ (ap (λ zs. from_le_bytes w64 zs ∷ words_in (drop 8 (xs ++ ys))) (take-append-le 8 xs ys eight)
    ∙ (ap (λ zs. from_le_bytes w64 (take 8 xs) ∷ words_in zs) (drop-append-le 8 xs ys eight)
    ∙ (ap (λ zs. from_le_bytes w64 (take 8 xs) ∷ zs) rest
    ∙ ap (λ zs. zs ++ words_in ys) (sym (words_in_cut xs eight)))))

-- bytes that were read whole, and the words that they are
pub words_read : (file piece words : List ℕ) (at n : ℕ) → length piece ≡ 8 * length words → length piece ≤ n → take n piece ≡ take (length piece) (drop at file) → words ≡ words_in piece → HasWords file at words
words_read file piece words at n fit low front is =
    let all : piece ≡ take (length piece) (drop at file) = sym (take_all n piece low) ∙ front in
    record {
      held = omega (arith, ap length all, length-take (length piece) (drop at file));
      read = is ∙ (ap words_in all ∙ ap (λ n. words_in (take n (drop at file))) fit);
    }

-- bytes that the file is too short for
pub piece_short : (file piece : List ℕ) (at n : ℕ) → n < length piece → take n piece ≡ take (length piece) (drop at file) → length (drop at file) < length piece
piece_short file piece at n short front = omega (arith, ap length front, length-take n piece, length-take (length piece) (drop at file))

-- words behind others
pub has_more : (file xs ys : List ℕ) (at : ℕ) → HasWords file at xs → HasWords file (at + 8 * length xs) ys → HasWords file at (xs ++ ys)
has_more file xs ys at front back =
    let m = 8 * length xs in
    let n = 8 * length ys in
    let bytes = drop at file in
    let behind : drop (at + m) file ≡ drop m bytes = sym (drop-drop m at file) in
    let sum : 8 * length (xs ++ ys) ≡ m + n = omega (arith, length-append xs ys) in
    let cut : take (m + n) bytes ≡ take m bytes ++ take n (drop m bytes) = take-add m n bytes in
    let both : words_in (take m bytes ++ take n (drop m bytes)) ≡ words_in (take m bytes) ++ words_in (take n (drop m bytes)) =
    words_in-append (length xs) (take m bytes) (take n (drop m bytes)) (omega (arith, length-take m bytes, front.held)) in
    let last : ys ≡ words_in (take n (drop m bytes)) = back.read ∙ ap (λ bs. words_in (take n bs)) behind in
    record {
      held = omega (arith, sum, back.held, front.held, ap length behind, length-drop m bytes);
      read = ap (λ ws. ws ++ ys) front.read ∙ (ap (λ ws. words_in (take m bytes) ++ ws) last ∙ (sym both ∙ (ap words_in (sym cut) ∙ ap (λ k. words_in (take k bytes)) (sym sum))));
    }

-- no words so far
pub has_none : (file : List ℕ) (at : ℕ) → HasWords file at []
has_none file at = record { held = omega arith; read = sym (words_in_short [] (omega arith)) }

abbrev front_word : List ℕ → ℕ
front_word [] = 0
front_word (x ∷ xs) = x

abbrev next_word : List ℕ → ℕ
next_word (x ∷ y ∷ xs) = y
next_word xs = 0

-- the two words of a bridge
pub first_word : (file words : List ℕ) (at : ℕ) → length words ≡ 2 → HasWords file at words → slice_index_or words 0 0 ≡ number w64 at file
first_word file [] at two has = absurd (omega (arith, two))
first_word file (a ∷ []) at two has = absurd (omega (arith, two))
first_word file (a ∷ b ∷ c ∷ rest) at two has = absurd (omega (arith, two))
first_word file (a ∷ b ∷ []) at two has =
    let bytes = drop at file in
    let cut : words_in (take 16 bytes) ≡ from_le_bytes w64 (take 8 (take 16 bytes)) ∷ words_in (drop 8 (take 16 bytes)) = words_in_cut (take 16 bytes) (omega (arith, length-take 16 bytes, has.held)) in
    let is : a ≡ from_le_bytes w64 (take 8 (take 16 bytes)) = ap front_word (has.read ∙ cut) in
    is ∙ ap (from_le_bytes w64) (take-take 8 16 bytes (omega arith))

pub second_word : (file words : List ℕ) (at : ℕ) → length words ≡ 2 → HasWords file at words → slice_index_or words 1 0 ≡ number w64 (at + 8) file
second_word file [] at two has = absurd (omega (arith, two))
second_word file (a ∷ []) at two has = absurd (omega (arith, two))
second_word file (a ∷ b ∷ c ∷ rest) at two has = absurd (omega (arith, two))
second_word file (a ∷ b ∷ []) at two has =
    let bytes = drop at file in
    let behind : List ℕ = drop 8 (take 16 bytes) in
    let cut : words_in (take 16 bytes) ≡ from_le_bytes w64 (take 8 (take 16 bytes)) ∷ words_in behind = words_in_cut (take 16 bytes) (omega (arith, length-take 16 bytes, has.held)) in
    let again : words_in behind ≡ from_le_bytes w64 (take 8 behind) ∷ words_in (drop 8 behind) = words_in_cut behind (omega (arith, length-drop 8 (take 16 bytes), length-take 16 bytes, has.held)) in
    let part : behind ≡ take 8 (drop 8 bytes) = drop-take 8 8 bytes in
    let place : drop 8 bytes ≡ drop (at + 8) file = drop-drop 8 at file in
    let is : b ≡ from_le_bytes w64 (take 8 behind) = ap next_word (has.read ∙ (cut ∙ ap (λ ws. from_le_bytes w64 (take 8 (take 16 bytes)) ∷ ws) again)) in
    is ∙ ap (from_le_bytes w64) (ap (take 8) part ∙ (take-take 8 8 (drop 8 bytes) (omega arith) ∙ ap (take 8) place))
