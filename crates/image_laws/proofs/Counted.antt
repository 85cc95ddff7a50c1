-- The chain of segments: where they stand, and how many words they have.
use Rattle.std.proofs.Common.{◌≡◌, ℕ, suc, zero, Bool, true, false, not, ◌||◌, ◌+◌, ◌-◌, ◌*◌, ◌%◌, ◌≤◌, eqb, ltb, List, [], length, drop, refl, sym, ap, ◌∙◌, subst, arith, inl, inr, length-take, length-drop}
use Rattle.std.proofs.lemmas.Bool.{cases_eq, cases_lt, eqb-true, ltb-false, or_parts, not-true, not-false}
use Rattle.std.proofs.lemmas.List.Concat.{length-flat_map}
use Rattle.std.proofs.lemmas.List.Sums.{sum_by-cons}
use Rattle.std.specs.List.{sum_by, flat_map, slice_range}
use Rattle.spur_graph.specs.ImageFile.{header_bytes, heap_bytes, base}
use Rattle.spur_graph.specs.Segments.{Segment, most_segments, bridge_bytes, greatest_end, end_of, left, is_bad_size, is_good, is_last, gap_of, bridge_first, segment, chain, segments, word_count, segment_words, all_words, total_words}
use Rattle.spur_graph.specs.ImageCauses.{most_words, needed}
use Rattle.heap_segments.specs.Rising.{IsAbove, IsRising}
use Rattle.heap_segments.proofs.Rising.{total-cons}
use Rattle.heap_segments.proofs.ByteWords.{words_in-length}
use Rattle.heap_segments.proofs.Chained.{linked, chain-cut, segment-first, segment-next, segments-chain}
use Rattle.image_laws.specs.Counted.{RowsCount}

-- ---- one segment

record CanBe (left size address : ℕ) : Type 0 where
  whole : size % 8 ≡ 0
  some : 16 ≤ size
  fits : size ≤ left
  low : address + size ≤ greatest_end

can_be : (left size address : ℕ) → not (is_bad_size left size address) ≡ true → CanBe left size address
can_be left size address e =
    let off : is_bad_size left size address ≡ false = not-true (is_bad_size left size address) e in
    let a = or_parts (not (eqb (size % 8) 0) || ltb size bridge_bytes || ltb left size) (ltb greatest_end (address + size)) off in
    let b = or_parts (not (eqb (size % 8) 0) || ltb size bridge_bytes) (ltb left size) a.0 in
    let c = or_parts (not (eqb (size % 8) 0)) (ltb size bridge_bytes) b.0 in
    record {
      whole = eqb-true (size % 8) 0 (not-false (eqb (size % 8) 0) c.0);
      some = ltb-false size bridge_bytes c.1;
      fits = ltb-false left size b.1;
      low = ltb-false greatest_end (address + size) a.1;
    }

chain-none : (bytes : List ℕ) (i : ℕ) → chain bytes i 0 ≡ []
unfolding chain
chain-none bytes i = refl

linked-rising : (good last : Bool) (s : Segment) (rest : List Segment) (floor : ℕ) → (good ≡ true → IsAbove floor s) → (good ≡ true → IsRising (end_of s) rest) → IsRising floor (linked good last s rest)
linked-rising true true s rest floor a r = (a refl, tt)
linked-rising true false s rest floor a r = (a refl, r refl)
linked-rising false last s rest floor a r = tt

chain-rising : (bytes : List ℕ) (i most floor : ℕ) → (segment bytes i).address % 8 ≡ 0 → floor ≤ (segment bytes i).address → IsRising floor (chain bytes i most)
chain-rising bytes i zero floor aligned above = subst (IsRising floor) (sym (chain-none bytes i)) tt
chain-rising bytes i (suc most) floor aligned above =
    let s : Segment = segment bytes i in
    let next : (segment bytes (i + 1)).address ≡ s.address + s.size + 8 * gap_of (bridge_first bytes s) = ap (λ (t : Segment). t.address) (segment-next bytes i) in
    subst (IsRising floor) (sym (chain-cut bytes i most)) (linked-rising (is_good bytes s) (is_last bytes s) s (chain bytes (i + 1) most) floor
    (λ e. let c = can_be (left bytes s) s.size s.address e in record { above = above; aligned = aligned; whole = c.whole; some = c.some; low = c.low })
    (λ e. let c = can_be (left bytes s) s.size s.address e in
    chain-rising bytes (i + 1) most (end_of s) (omega (arith, next, aligned, c.whole)) (omega (arith, next))))

-- ---- their words

linked-total : (good last : Bool) (s : Segment) (rest : List Segment) (n : ℕ) → (good ≡ true → 8 * word_count s + 8 * total_words rest ≤ n) → 8 * total_words (linked good last s rest) ≤ n
linked-total true true s rest n a = omega (arith, total-cons s [], a refl)
linked-total true false s rest n a = omega (arith, total-cons s rest, a refl)
linked-total false last s rest n a = omega arith

chain-total : (bytes : List ℕ) (i most : ℕ) → 8 * total_words (chain bytes i most) ≤ left bytes (segment bytes i)
chain-total bytes i zero = subst (λ ss. 8 * total_words ss ≤ left bytes (segment bytes i)) (sym (chain-none bytes i)) (omega arith)
chain-total bytes i (suc most) =
    let s : Segment = segment bytes i in
    let next : (segment bytes (i + 1)).at ≡ s.at + s.size = ap (λ (t : Segment). t.at) (segment-next bytes i) in
    subst (λ ss. 8 * total_words ss ≤ left bytes s) (sym (chain-cut bytes i most)) (linked-total (is_good bytes s) (is_last bytes s) s (chain bytes (i + 1) most) (left bytes s)
    (λ e. let c = can_be (left bytes s) s.size s.address e in let c0 = c.some in let c1 = c.fits in let more = chain-total bytes (i + 1) most in omega (arith, next, c0, c1, more)))

linked-same : (f g : Segment → ℕ) (good last : Bool) (s : Segment) (rest : List Segment) → (good ≡ true → f s ≡ g s) → (good ≡ true → sum_by f rest ≡ sum_by g rest) → sum_by f (linked good last s rest) ≡ sum_by g (linked good last s rest)
linked-same f g true true s rest a r = sum_by-cons f s [] ∙ (λ i. a refl i + sum_by f []) ∙ sym (sum_by-cons g s [])
linked-same f g true false s rest a r = sum_by-cons f s rest ∙ (λ i. a refl i + r refl i) ∙ sym (sum_by-cons g s rest)
linked-same f g false last s rest a r = refl

segment-length : (bytes : List ℕ) (s : Segment) → header_bytes + heap_bytes bytes ≤ length bytes → is_good bytes s ≡ true → length (segment_words bytes s) ≡ word_count s
segment-length bytes s long e =
    let c = can_be (left bytes s) s.size s.address e in
    let c0 = c.whole in
    let c1 = c.some in
    let c2 = c.fits in
    let piece : List ℕ = slice_range bytes s.at (s.at + s.size - bridge_bytes) in
    let n : length piece ≡ 8 * word_count s = omega (arith, length-take (s.at + s.size - bridge_bytes - s.at) (drop s.at bytes), length-drop s.at bytes, c0, c1, c2, long) in
    words_in-length (word_count s) piece n

chain-same : (bytes : List ℕ) (i most : ℕ) → header_bytes + heap_bytes bytes ≤ length bytes → sum_by (λ s. length (segment_words bytes s)) (chain bytes i most) ≡ total_words (chain bytes i most)
chain-same bytes i zero long = subst (λ ss. sum_by (λ s. length (segment_words bytes s)) ss ≡ total_words ss) (sym (chain-none bytes i)) refl
chain-same bytes i (suc most) long =
    let s : Segment = segment bytes i in
    subst (λ ss. sum_by (λ s. length (segment_words bytes s)) ss ≡ total_words ss) (sym (chain-cut bytes i most))
    (linked-same (λ s. length (segment_words bytes s)) word_count (is_good bytes s) (is_last bytes s) s (chain bytes (i + 1) most) (segment-length bytes s long) (λ e. chain-same bytes (i + 1) most long))

-- ---- all of them

words-map : (bytes : List ℕ) → all_words bytes ≡ flat_map (segment_words bytes) (segments bytes)
unfolding all_words
words-map bytes = refl

pub rows_count : RowsCount
rows_count bytes limits based small there =
    let aligned : base bytes % 8 ≡ 0 = elim (cases_eq (base bytes % 8) 0) [ inl e ↦ e | inr n ↦ absurd (based 0 (inl n)) ] in
    let long : header_bytes + heap_bytes bytes ≤ length bytes = elim (cases_lt (length bytes) (header_bytes + heap_bytes bytes)) [ inl low ↦ absurd (there 0 low) | inr high ↦ high ] in
    let is : segments bytes ≡ chain bytes 0 most_segments = segments-chain bytes in
    let of : length (all_words bytes) ≡ total_words (segments bytes) =
    ap length (words-map bytes) ∙ length-flat_map (segment_words bytes) (segments bytes) ∙ subst (λ ss. sum_by (λ s. length (segment_words bytes s)) ss ≡ total_words ss) (sym is) (chain-same bytes 0 most_segments long) in
    let total : 8 * total_words (segments bytes) ≤ left bytes (segment bytes 0) = subst (λ ss. 8 * total_words ss ≤ left bytes (segment bytes 0)) (sym is) (chain-total bytes 0 most_segments) in
    let fit : 8 * length (all_words bytes) ≤ heap_bytes bytes = omega (arith, of, total, ap (λ (s : Segment). s.at) (segment-first bytes)) in
    record {
      rising = subst (IsRising 0) (sym is) (chain-rising bytes 0 most_segments 0 (ap (λ (s : Segment). s.address % 8) (segment-first bytes) ∙ aligned) (omega arith));
      of = of;
      fit = fit;
      few = elim (cases_lt most_words (needed bytes limits)) [ inl high ↦ absurd (small 0 high) | inr low ↦ omega (arith, fit, low) ];
    }
