-- The bytes of words, in pieces.
use Rattle.std.proofs.Common.{◌≡◌, ◌+◌, ℕ, zero, suc, List, [], ◌∷◌, ◌++◌, map, refl, sym, ◌∙◌, ap, arith, append-nil, append_assoc, zero-add}
use Rattle.std.specs.List.{flat_map, range_with_len}
use Rattle.std.specs.Int.{w64, to_le_bytes}
use Rattle.std.proofs.lemmas.Grind.{flat_map-append}
use Rattle.std.proofs.lemmas.List.FromFn.{map-range_with_len_more}
use Rattle.spur_io.proofs.Fronts.{ArePieces}

module _ (word : ℕ → ℕ) where
  -- the bytes of `n` words, from the word `from` on
  abbrev pub bytes_from : ℕ → ℕ → List ℕ
  bytes_from from n = flat_map (to_le_bytes w64) (map word (range_with_len from n))

  -- a word more
  pub bytes_more : (from n : ℕ) → bytes_from from (n + 1) ≡ bytes_from from n ++ to_le_bytes w64 (word (from + n))
  bytes_more from n =
      ap (flat_map (to_le_bytes w64)) (map-range_with_len_more word from n (from + n) refl)
      ∙ flat_map-append (to_le_bytes w64) (map word (range_with_len from n)) (word (from + n) ∷ [])
      ∙ ap (λ bytes. bytes_from from n ++ bytes) (append-nil (to_le_bytes w64 (word (from + n))))

  -- a piece more
  pub bytes_add : (from m n : ℕ) → bytes_from from (m + n) ≡ bytes_from from m ++ bytes_from (from + m) n
  bytes_add from m zero =
      let same : m + 0 ≡ m = omega arith in
      ap (bytes_from from) same ∙ sym (append-nil (bytes_from from m))
  bytes_add from m (suc n) =
      let one : suc n ≡ n + 1 = omega arith in
      let more : m + suc n ≡ m + n + 1 = omega arith in
      let place : from + m + n ≡ from + (m + n) = omega arith in
      let last : List ℕ = to_le_bytes w64 (word (from + (m + n))) in
      let longer : bytes_from (from + m) (suc n) ≡ bytes_from (from + m) n ++ last =
      ap (bytes_from (from + m)) one ∙ bytes_more (from + m) n ∙ ap (λ k. bytes_from (from + m) n ++ to_le_bytes w64 (word k)) place in
      ap (bytes_from from) more ∙ bytes_more from (m + n) ∙ ap (λ bytes. bytes ++ last) (bytes_add from m n)
      ∙ append_assoc (bytes_from from m) (bytes_from (from + m) n) last ∙ ap (λ bytes. bytes_from from m ++ bytes) (sym longer)

  -- a header and the words behind it
  pub word_pieces : (header : List ℕ) → ArePieces header (λ n. header ++ bytes_from 0 n) bytes_from
  word_pieces header = record {
    none = append-nil header;
    more = λ at n.
        ap (λ bytes. header ++ bytes) (bytes_add 0 at n ∙ ap (λ k. bytes_from 0 at ++ bytes_from k n) (zero-add at))
        ∙ sym (append_assoc header (bytes_from 0 at) (bytes_from at n));
  }
