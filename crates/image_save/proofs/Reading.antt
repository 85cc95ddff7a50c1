-- A saved file, read.
use Rattle.std.proofs.Common.{◌≡◌, ℕ, true, false, cond, not, ◌||◌, eqb, ◌+◌, ◌-◌, ◌*◌, ◌/◌, ◌%◌, ◌^◌, ◌<◌, ◌≤◌, List, [], ◌∷◌, ◌++◌, map, take, drop, length, refl, sym, ap, ◌∙◌, subst, arith, append_assoc, append-nil, length-append}
use Rattle.std.proofs.lemmas.Bool.{eq-eqb, ne_eqb, le-ltb}
use Rattle.std.proofs.Math.Seq.{take-append_seam, drop-append_seam}
use Rattle.std.proofs.lemmas.Nat.{from_le_bytes-to_le_bytes_8}
use Rattle.std.proofs.lemmas.List.FromFn.{length-range_with_len}
use Rattle.std.specs.List.{All, flat_map, range_with_len}
use Rattle.std.specs.Int.{w32, w64, to_le_bytes, from_le_bytes}
use Rattle.spur_graph.specs.Bytes.{number, words_in}
use Rattle.spur_graph.specs.ImageFile.{header_size, heap_bytes, base, first_segment}
use Rattle.spur_graph.specs.Segments.{Segment, segments, segment, chain, all_words, segment_words, is_good, is_last, bridge_second}
use Rattle.spur_graph.specs.Heaps.{View, IsWhole}
use Rattle.heap_segments.proofs.Chained.{linked, chain-cut, segments-chain}
use Rattle.heap_segments.proofs.ByteWords.{words_in_cut, words_in_short}
use Rattle.image_header.specs.declared.header.ImageHeader.{ImageHeader}
use Rattle.image_header.specs.Headers.{written, HasWidths, IsReadable, IsHeaderOf}
use Rattle.image_header.proofs.Numbers.{front_number}
use Rattle.image_header.proofs.Headers.{written_long, reads_back, carries, tells_of_file}
use Rattle.spur_heap.proofs.Hops.{reference_named, start_at}
use Rattle.image_save.specs.Saved.{saved_text, saved_front, saved_word, saved_words, saved_bytes, saved_head, word_bytes, file_words}
use Rattle.image_save.specs.Words.{IsValue}
use Rattle.image_save.specs.Denotes.{SavedIsRead, IsRead, saved_segment}
use Rattle.image_save.proofs.Pieces.{word_bytes_more}
use Rattle.spur_heap.proofs.Puts.{whole_sound}
use Rattle.image_save.proofs.Fits.{saved_fits, small, value_fits}
use Rattle.image_save.proofs.Ready.{word_behind}

-- ---- words as bytes

-- words that fit are read back
words_back : (f : ℕ → ℕ) (ks : List ℕ) → ((i : ℕ) → f i < 2 ^ 64) → words_in (flat_map (to_le_bytes w64) (map f ks)) ≡ map f ks
words_back f [] fit = words_in_short [] (omega arith)
words_back f (k ∷ ks) fit =
    let rest : List ℕ = flat_map (to_le_bytes w64) (map f ks) in
    let eight : 8 ≤ length (to_le_bytes w64 (f k) ++ rest) = omega (arith, length-append (to_le_bytes w64 (f k)) rest) in
    words_in_cut (to_le_bytes w64 (f k) ++ rest) eight
    ∙ (λ i. from_le_bytes w64 (take-append_seam (to_le_bytes w64 (f k)) rest i) ∷ words_in (drop-append_seam (to_le_bytes w64 (f k)) rest i))
    ∙ (λ i. from_le_bytes-to_le_bytes_8 (f k) (fit k) i ∷ words_back f ks fit i)

bytes_long : (f : ℕ → ℕ) (ks : List ℕ) → length (flat_map (to_le_bytes w64) (map f ks)) ≡ 8 * length ks
bytes_long f [] = refl
bytes_long f (k ∷ ks) = let rest = bytes_long f ks in omega (arith, length-append (to_le_bytes w64 (f k)) (flat_map (to_le_bytes w64) (map f ks)), rest)

word_bytes_long : (v : View) (n : ℕ) → length (word_bytes v 0 n) ≡ 8 * n
unfolding word_bytes
word_bytes_long v n = bytes_long (saved_word v) (range_with_len 0 n) ∙ ap (λ k. 8 * k) (length-range_with_len 0 n)

word_bytes_back : (v : View) (n : ℕ) → ((i : ℕ) → saved_word v i < 2 ^ 64) → words_in (word_bytes v 0 n) ≡ map (saved_word v) (range_with_len 0 n)
unfolding word_bytes
word_bytes_back v n fit = words_back (saved_word v) (range_with_len 0 n) fit

words_are_map : (v : View) → saved_words v ≡ map (saved_word v) (range_with_len 0 (file_words v))
unfolding saved_words
words_are_map v = refl

-- ---- the header

module _ (v : View) (whole : IsWhole v) (all : All (λ w. w < 2 ^ 64) v.words) where
  abbrev head : ImageHeader
  head = saved_head v

  abbrev front : List ℕ
  front = written head

  front_long : length front ≡ 128
  front_long = written_long head whole.header.long

  abbrev n : ℕ
  n = file_words v

  -- the header, the words, and the last word of the bridge
  text_is : saved_text v ≡ (front ++ word_bytes v 0 (n + 1)) ++ to_le_bytes w64 (saved_word v (n + 1))
  unfolding saved_text saved_front
  text_is =
      let more : n + 2 ≡ n + 1 + 1 = omega arith in
      let last : 0 + (n + 1) ≡ n + 1 = omega arith in
      ap (λ k. front ++ word_bytes v 0 k) more ∙ ap (λ bs. front ++ bs) (word_bytes_more v 0 (n + 1) ∙ ap (λ k. word_bytes v 0 (n + 1) ++ to_le_bytes w64 (saved_word v k)) last)
      ∙ sym (append_assoc front (word_bytes v 0 (n + 1)) (to_le_bytes w64 (saved_word v (n + 1))))

  -- behind the header the words
  text_front : saved_text v ≡ front ++ word_bytes v 0 (n + 2)
  unfolding saved_text saved_front
  text_front = refl

  front_is : take 128 (saved_text v) ≡ front
  front_is = ap (λ bs. take 128 bs) text_front ∙ ap (λ k. take k (front ++ word_bytes v 0 (n + 2))) (sym front_long) ∙ take-append_seam front (word_bytes v 0 (n + 2))

  behind_front : drop 128 (saved_text v) ≡ word_bytes v 0 (n + 2)
  behind_front = ap (λ bs. drop 128 bs) text_front ∙ ap (λ k. drop k (front ++ word_bytes v 0 (n + 2))) (sym front_long) ∙ drop-append_seam front (word_bytes v 0 (n + 2))

  text_long : length (saved_text v) ≡ 128 + saved_bytes v
  text_long = let a = ap length text_front in let b = length-append front (word_bytes v 0 (n + 2)) in let c = word_bytes_long v (n + 2) in omega (arith, a, b, c, front_long)

  special_value : IsValue v v.special
  special_value z = (reference_named v (whole_sound v whole) v.special whole.special_there).starts

  special_fits : v.special < 2 ^ 64
  special_fits =
      let low = (start_at v (whole_sound v whole) (v.special / 8) (reference_named v (whole_sound v whole) v.special whole.special_there).starts).below in
      let few = whole.few in
      omega (arith, low, few)

  widths : HasWidths head
  widths =
      let few = small v whole in
      let low = whole.header.low in
      let bits = whole.state_bits in
      record {
        format_fits = omega arith;
        heap_fits = omega (arith, few);
        base_fits = omega (arith, low);
        special_fits = value_fits v whole all v.special special_value special_fits;
        hash_fits = omega (arith, bits);
        segment_fits = omega (arith, few);
        whole = whole.header.long;
      }

  readable : IsReadable head
  readable = record {
    format_is = refl;
    size_is = whole.header.size;
    base_is = (λ i. not (eq-eqb (base v.carried % 8) 0 whole.header.aligned i) || le-ltb (2 ^ 60) (base v.carried) whole.header.low i);
  }

  of_text : IsHeaderOf (saved_text v) (record head { carried = front })
  of_text = (tells_of_file (saved_text v)).1 (record head { carried = front }) (subst (λ bs. IsHeaderOf bs (record head { carried = front })) (sym front_is) (reads_back head widths readable).1)

  size_is : header_size (saved_text v) ≡ 128
  size_is = sym (front_number w32 4 (saved_text v) (omega arith)) ∙ ap (λ bs. number w32 4 bs) front_is ∙ (carries head whole.header.long).0 ∙ whole.header.size

  -- ---- the one segment

  abbrev seg : Segment
  seg = saved_segment v

  pub first_is : segment (saved_text v) 0 ≡ seg
  unfolding segment
  first_is =
      let zero_is : eqb (first_segment (saved_text v)) 0 ≡ false = ap (λ k. eqb k 0) (sym of_text.segment_is) ∙ ne_eqb (saved_bytes v) 0 (λ e. absurd (omega (arith, e))) in
      λ i. record { at = 128; size = (ap (λ b. cond b (heap_bytes (saved_text v)) (first_segment (saved_text v))) zero_is ∙ sym of_text.segment_is) i; address = sym of_text.base_is i }

  pub good : is_good (saved_text v) seg ≡ true
  good =
      let few = small v whole in
      let low = whole.header.low in
      let heap = of_text.heap_is in
      let left : 128 + heap_bytes (saved_text v) - 128 ≡ saved_bytes v = omega (arith, heap) in
      λ i. not (not (eq-eqb (saved_bytes v % 8) 0 (omega arith) i) || le-ltb (saved_bytes v) 16 (omega arith) i || le-ltb (128 + heap_bytes (saved_text v) - 128) (saved_bytes v) (omega (arith, left)) i || le-ltb (2 ^ 62) (base v.carried + saved_bytes v) (omega (arith, few, low)) i)

  last_word : bridge_second (saved_text v) seg ≡ 0
  last_word =
      let all_before : List ℕ = front ++ word_bytes v 0 (n + 1) in
      let long : 128 + saved_bytes v - 8 ≡ length all_before = let a = length-append front (word_bytes v 0 (n + 1)) in let b = word_bytes_long v (n + 1) in omega (arith, a, b, front_long) in
      let end : drop (128 + saved_bytes v - 8) (saved_text v) ≡ to_le_bytes w64 (saved_word v (n + 1)) =
      (λ i. drop (long i) (text_is i)) ∙ drop-append_seam all_before (to_le_bytes w64 (saved_word v (n + 1))) in
      ap (λ bs. from_le_bytes w64 (take 8 bs)) end ∙ ap (λ w. from_le_bytes w64 (take 8 (to_le_bytes w64 w))) (word_behind v (n + 1) (omega arith)) ∙ from_le_bytes-to_le_bytes_8 0 (omega arith)

  pub last : is_last (saved_text v) seg ≡ true
  last = eq-eqb (bridge_second (saved_text v) seg) 0 last_word

  segments_are : segments (saved_text v) ≡ seg ∷ []
  segments_are =
      let rest : List Segment = chain (saved_text v) 1 4095 in
      segments-chain (saved_text v) ∙ chain-cut (saved_text v) 0 4095
      ∙ ap (λ (s : Segment). linked (is_good (saved_text v) s) (is_last (saved_text v) s) s rest) first_is
      ∙ (λ i. linked (good i) (last i) seg rest)

  -- ---- the words

  two_more : word_bytes v 0 (n + 2) ≡ word_bytes v 0 n ++ (to_le_bytes w64 (saved_word v (0 + n)) ++ to_le_bytes w64 (saved_word v (0 + (n + 1))))
  two_more =
      let more : n + 2 ≡ n + 1 + 1 = omega arith in
      ap (word_bytes v 0) more ∙ word_bytes_more v 0 (n + 1) ∙ ap (λ bs. bs ++ to_le_bytes w64 (saved_word v (0 + (n + 1)))) (word_bytes_more v 0 n)
      ∙ append_assoc (word_bytes v 0 n) (to_le_bytes w64 (saved_word v (0 + n))) (to_le_bytes w64 (saved_word v (0 + (n + 1))))

  segment_is : segment_words (saved_text v) seg ≡ saved_words v
  segment_is =
      let rest : List ℕ = to_le_bytes w64 (saved_word v (0 + n)) ++ to_le_bytes w64 (saved_word v (0 + (n + 1))) in
      let long : 128 + saved_bytes v - 16 - 128 ≡ length (word_bytes v 0 n) = let b = word_bytes_long v n in omega (arith, b) in
      ap words_in ((λ i. take (long i) ((behind_front ∙ two_more) i)) ∙ take-append_seam (word_bytes v 0 n) rest) ∙ word_bytes_back v n (saved_fits v whole all) ∙ sym (words_are_map v)

  words_are : all_words (saved_text v) ≡ saved_words v
  unfolding all_words
  words_are = ap (flat_map (segment_words (saved_text v))) segments_are ∙ append-nil (segment_words (saved_text v) seg) ∙ segment_is

  is_read : IsRead v
  is_read = record {
    spur = sym of_text.format_is;
    size = size_is;
    heap_is = sym of_text.heap_is;
    base_is = sym of_text.base_is;
    special_is = sym of_text.special_is;
    hash_is = sym of_text.hash_is;
    first_is = sym of_text.segment_is;
    long = text_long;
    segments_are = segments_are;
    words_are = words_are;
  }

pub saved_is_read : SavedIsRead
saved_is_read v whole all = is_read v whole all
