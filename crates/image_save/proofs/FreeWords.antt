-- The words of a free chunk that is saved.
use Rattle.std.proofs.Common.{◌≡◌, ℕ, Bool, true, false, cond, eqb, ◌+◌, ◌-◌, ◌*◌, ◌^◌, ◌<◌, ◌≤◌, List, length, get_or, ap, ◌∙◌, inl, inr, arith}
use Rattle.std.proofs.lemmas.Bool.{cases_lt, lt-ltb, le-ltb}
use Rattle.object_header.specs.Field.{field_of, with_field}
use Rattle.object_header.specs.Fields.{free_header}
use Rattle.object_header.specs.Head.{count_of, class_of, overflow_slots_of}
use Rattle.object_header.proofs.HeadWords.{overflow_count, overflow_slots}
use Rattle.spur_graph.specs.BaseImage.{overflow_word}
use Rattle.free_lists.specs.Runs.{IsFree}
use Rattle.image_save.specs.Saved.{free_word}

-- ---- a header as a sum

header_sum : (n : ℕ) → n < 2 ^ 8 → free_header n ≡ n * 2 ^ 56 + 9 * 2 ^ 24
unfolding free_header with_field
header_sum n fits = omega arith

header_count : (n : ℕ) → n < 2 ^ 8 → count_of (free_header n) ≡ n
unfolding field_of
header_count n fits = let is = header_sum n fits in omega (arith, is)

header_class : (n : ℕ) → n < 2 ^ 8 → class_of (free_header n) ≡ 0
unfolding field_of
header_class n fits = let is = header_sum n fits in omega (arith, is)

-- ---- the words

pub either : (b : Bool) (x y : ℕ) → x < 2 ^ 64 → y < 2 ^ 64 → cond b x y < 2 ^ 64
either true x y l m = l
either false x y l m = m

module _ (size : ℕ) where
  abbrev long_word : ℕ → ℕ
  long_word k = cond (eqb k 0) (overflow_word (size - 2)) (cond (eqb k 1) (free_header 255) 0)

  abbrev short_word : ℕ → ℕ
  short_word k = cond (eqb k 0) (free_header (size - 1)) 0

  long_is : (k : ℕ) → 255 < size → free_word size k ≡ long_word k
  unfolding free_word
  long_is k l = ap (λ b. cond b (long_word k) (short_word k)) (lt-ltb 255 size l)

  short_is : (k : ℕ) → size ≤ 255 → free_word size k ≡ short_word k
  unfolding free_word
  short_is k l = ap (λ b. cond b (long_word k) (short_word k)) (le-ltb 255 size l)

  pub free_fits : (k : ℕ) → size ≤ 2 ^ 27 → free_word size k < 2 ^ 64
  free_fits k small = elim (cases_lt 255 size) [
    | inl long ↦
        let is = long_is k long in
        let header = header_sum 255 (omega arith) in
        let fits = either (eqb k 0) (overflow_word (size - 2)) (cond (eqb k 1) (free_header 255) 0) (omega (arith, small)) (either (eqb k 1) (free_header 255) 0 (omega (arith, header)) (omega arith)) in
        omega (arith, is, fits)
    | inr short ↦
        let is = short_is k short in
        let header = header_sum (size - 1) (omega (arith, short)) in
        let fits = either (eqb k 0) (free_header (size - 1)) 0 (omega (arith, header, short)) (omega arith) in
        omega (arith, is, fits)
  ]

  -- words that begin so are a free chunk
  pub free_by : (words : List ℕ) (at : ℕ) → 2 ≤ size → size ≤ 2 ^ 27 → at + size ≤ length words → get_or words at 0 ≡ free_word size 0 → get_or words (at + 1) 0 ≡ free_word size 1 → IsFree words at size
  free_by words at big small inside first second = record {
    big = big;
    inside = inside;
    short = λ l.
        let is = first ∙ short_is 0 l in
        let fits : size - 1 < 2 ^ 8 = omega (arith, l) in
        (ap count_of is ∙ header_count (size - 1) fits, ap class_of is ∙ header_class (size - 1) fits, is);
    long = λ l.
        let is = first ∙ long_is 0 l in
        let next = second ∙ long_is 1 l in
        let few : size - 2 < 2 ^ 56 = omega (arith, small) in (
          ap count_of is ∙ overflow_count (size - 2) few,
          ap overflow_slots_of is ∙ overflow_slots (size - 2) few,
          ap count_of next ∙ header_count 255 (omega arith),
          ap class_of next ∙ header_class 255 (omega arith),
          next,
        );
  }
