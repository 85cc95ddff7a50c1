-- Entries that follow one another.
use Rattle.std.proofs.Common.{◌≡◌, ℕ, zero, suc, ◌+◌, ◌*◌, ◌/◌, ◌%◌, ◌-◌, ◌≤◌, ◌<◌, List, [], ◌∷◌, ◌++◌, length, take, get_or, Some, None, Bool, true, false, nat_lt, leb, ◌==◌, cond, arith, refl, sym, ap, ◌∙◌}
use Rattle.std.proofs.lemmas.Bool.Decides.{nat_tests}
use Rattle.std.specs.List.Sorted.{IsNonDecreasingBy}
use Rattle.spur_graph.specs.ImageFile.{header_bytes}
use Rattle.spur_graph.specs.Segments.{Segment, word_count, total_words, word_in, offset_in, is_bad_size, bridge_bytes, greatest_end}
use Rattle.heap_segments.specs.declared.entry.Entry.{Entry}
use Rattle.heap_segments.specs.Rising.{IsAbove, IsRising, has_address, end_address, end_place, segment_at}
use Rattle.heap_segments.specs.Entries.{segment_of, segments_of, AreLaidFrom, AreLaid, IsNear, word_within, blank, entry_at}
use Rattle.heap_segments.proofs.Rising.{total-cons, word-cons, word-none, has_no_lower, has_no_higher}

pub rising : (at floor word : ℕ) (es : List Entry) → AreLaidFrom at floor word es → IsRising floor (segments_of es)
rising at floor word [] laid = tt
rising at floor word (e ∷ rest) laid = (laid.0.segment, rising (e.at + e.size) (e.address + e.size) (word + word_count (segment_of e)) rest laid.1)

-- the numbers of each entry are near its address
near_from : (at floor word : ℕ) (es : List Entry) (i : ℕ) → AreLaidFrom at floor word es → at ≤ header_bytes + floor → 8 * word ≤ floor → i < length es → IsNear (entry_at es i)
near_from at floor word [] i laid low few lt = absurd (omega arith)
near_from at floor word (e ∷ rest) zero laid low few lt = record {
  place = omega (arith, laid.0.place, laid.0.segment.above);
  words = omega (arith, laid.0.begins, laid.0.segment.above);
  whole = laid.0.segment.whole;
  some = laid.0.segment.some;
  low = laid.0.segment.low;
}
near_from at floor word (e ∷ rest) (suc i) laid low few lt =
    near_from (e.at + e.size) (e.address + e.size) (word + word_count (segment_of e)) rest i laid.1 (omega (arith, laid.0.place, laid.0.segment.above)) (omega (arith, laid.0.segment.above, laid.0.segment.some)) (omega arith)

pub near : (es : List Entry) (i : ℕ) → AreLaid es → i < length es → IsNear (entry_at es i)
near es i laid lt = near_from header_bytes 0 0 es i laid.laid (omega arith) (omega arith) lt

-- no entry is lower than the first may be
low_address : (at floor word : ℕ) (es : List Entry) (i : ℕ) (d : Entry) → AreLaidFrom at floor word es → i < length es → floor ≤ (get_or es i d).address
low_address at floor word [] i d laid lt = absurd (omega arith)
low_address at floor word (e ∷ rest) zero d laid lt = laid.0.segment.above
low_address at floor word (e ∷ rest) (suc i) d laid lt =
    omega (arith, laid.0.segment.above, low_address (e.at + e.size) (e.address + e.size) (word + word_count (segment_of e)) rest i d laid.1 (omega arith))

low_begin : (at floor word : ℕ) (es : List Entry) (i : ℕ) (d : Entry) → AreLaidFrom at floor word es → i < length es → word ≤ (get_or es i d).begin
low_begin at floor word [] i d laid lt = absurd (omega arith)
low_begin at floor word (e ∷ rest) zero d laid lt = omega (arith, laid.0.begins)
low_begin at floor word (e ∷ rest) (suc i) d laid lt =
    omega (arith, low_begin (e.at + e.size) (e.address + e.size) (word + word_count (segment_of e)) rest i d laid.1 (omega arith))

-- entries rise by address, and do not fall by word
pub by_address : (at floor word : ℕ) (es : List Entry) → AreLaidFrom at floor word es → IsNonDecreasingBy (λ (e : Entry). e.address) es
by_address at floor word [] laid i j d le lt = absurd (omega arith)
by_address at floor word (e ∷ rest) laid zero zero d le lt = omega arith
by_address at floor word (e ∷ rest) laid zero (suc j) d le lt =
    omega (arith, low_address (e.at + e.size) (e.address + e.size) (word + word_count (segment_of e)) rest j d laid.1 (omega arith))
by_address at floor word (e ∷ rest) laid (suc i) zero d le lt = absurd (omega arith)
by_address at floor word (e ∷ rest) laid (suc i) (suc j) d le lt = by_address (e.at + e.size) (e.address + e.size) (word + word_count (segment_of e)) rest laid.1 i j d (omega arith) (omega arith)

pub by_begin : (at floor word : ℕ) (es : List Entry) → AreLaidFrom at floor word es → IsNonDecreasingBy (λ (e : Entry). e.begin) es
by_begin at floor word [] laid i j d le lt = absurd (omega arith)
by_begin at floor word (e ∷ rest) laid zero zero d le lt = omega arith
by_begin at floor word (e ∷ rest) laid zero (suc j) d le lt =
    omega (arith, laid.0.begins, low_begin (e.at + e.size) (e.address + e.size) (word + word_count (segment_of e)) rest j d laid.1 (omega arith))
by_begin at floor word (e ∷ rest) laid (suc i) zero d le lt = absurd (omega arith)
by_begin at floor word (e ∷ rest) laid (suc i) (suc j) d le lt = by_begin (e.at + e.size) (e.address + e.size) (word + word_count (segment_of e)) rest laid.1 i j d (omega arith) (omega arith)

-- the word at which an entry begins
pub begins : (at floor word : ℕ) (es : List Entry) (i : ℕ) → AreLaidFrom at floor word es → i < length es → (entry_at es i).begin ≡ word + total_words (take i (segments_of es))
begins at floor word [] i laid lt = absurd (omega arith)
begins at floor word (e ∷ rest) zero laid lt = omega (arith, laid.0.begins)
begins at floor word (e ∷ rest) (suc i) laid lt =
    omega (arith, begins (e.at + e.size) (e.address + e.size) (word + word_count (segment_of e)) rest i laid.1 (omega arith), total-cons (segment_of e) (take i (segments_of rest)))

-- what lies behind the last entry
pub record IsLast (at word : ℕ) (es : List Entry) (e : Entry) : Type 0 where
  pub place : end_place at (segments_of es) ≡ e.at + e.size
  pub words : word + total_words (segments_of es) ≡ e.begin + word_count (segment_of e)

pub last_from : (at floor word : ℕ) (es : List Entry) (i : ℕ) → AreLaidFrom at floor word es → i + 1 ≡ length es → IsLast at word es (entry_at es i)
unfolding end_place
last_from at floor word [] i laid is = absurd (omega arith)
last_from at floor word (e ∷ []) zero laid is = record { place = refl; words = omega (arith, laid.0.begins, total-cons (segment_of e) []) }
last_from at floor word (e ∷ []) (suc i) laid is = absurd (omega arith)
last_from at floor word (e ∷ f ∷ rest) zero laid is = absurd (omega arith)
last_from at floor word (e ∷ f ∷ rest) (suc i) laid is =
    let of : IsLast (e.at + e.size) (word + word_count (segment_of e)) (f ∷ rest) (entry_at (f ∷ rest) i) =
    last_from (e.at + e.size) (e.address + e.size) (word + word_count (segment_of e)) (f ∷ rest) i laid.1 (omega arith) in
    record { place = of.place; words = omega (arith, of.words, total-cons (segment_of e) (segments_of (f ∷ rest))) }

-- a segment more
pub pushed : (at floor word : ℕ) (es : List Entry) (e : Entry) → AreLaidFrom at floor word es → e.at ≡ end_place at (segments_of es) → e.begin ≡ word + total_words (segments_of es)
    → end_address floor (segments_of es) ≤ e.address → IsAbove 0 (segment_of e) → AreLaidFrom at floor word (es ++ e ∷ [])
unfolding end_place end_address
pushed at floor word [] e laid place begin above is =
    (record { place = place; segment = record { above = above; aligned = is.aligned; whole = is.whole; some = is.some; low = is.low }; begins = omega (arith, begin) }, tt)
pushed at floor word (f ∷ rest) e laid place begin above is = (
  laid.0,
  pushed (f.at + f.size) (f.address + f.size) (word + word_count (segment_of f)) rest e laid.1 place (omega (arith, begin, total-cons (segment_of f) (segments_of rest))) above is,
)

-- a segment of a size that it can have
pub fits : (left size address : ℕ) → is_bad_size left size address ≡ false → (size % 8 ≡ 0) × (bridge_bytes ≤ size) × (address + size ≤ greatest_end)
fits left size address is = (grind (arith, nat_tests), grind (arith, nat_tests), grind (arith, nat_tests))

-- no word has an address below all entries
pub none_above : (at floor word : ℕ) (es : List Entry) (a : ℕ) → ((k : ℕ) → k < length es → a < (entry_at es k).address) → word_in (segments_of es) word a ≡ None
none_above at floor word [] a high = word-none word a
none_above at floor word (e ∷ rest) a high =
    let other : has_address (segment_of e) a ≡ false = has_no_lower (segment_of e) a (high 0 (omega arith)) in
    word-cons (segment_of e) (segments_of rest) word a
    ∙ (ap (λ b. cond b (Some (word + (a - e.address) / 8)) (word_in (segments_of rest) (word + word_count (segment_of e)) a)) other
    ∙ none_above at floor (word + word_count (segment_of e)) rest a (λ k lt. high (suc k) (omega arith)))

-- the word that has an address is in the last entry that is not above it
pub found_entry : (at floor word : ℕ) (es : List Entry) (a i : ℕ) → AreLaidFrom at floor word es → i < length es → (entry_at es i).address ≤ a
    → ((k : ℕ) → i < k → k < length es → a < (entry_at es k).address) → word_in (segments_of es) word a ≡ word_within (entry_at es i) a
found_entry at floor word [] a i laid lt low high = absurd (omega arith)
found_entry at floor word (e ∷ rest) a zero laid lt low high =
    let none : word_in (segments_of rest) (word + word_count (segment_of e)) a ≡ None = none_above at floor (word + word_count (segment_of e)) rest a (λ k lt. high (suc k) (omega arith) (omega arith)) in
    word-cons (segment_of e) (segments_of rest) word a
    ∙ (ap (λ o. cond (has_address (segment_of e) a) (Some (word + (a - e.address) / 8)) o) none
    ∙ ap (λ w. cond (has_address (segment_of e) a) (Some (w + (a - e.address) / 8)) None) (sym laid.0.begins))
found_entry at floor word (e ∷ rest) a (suc i) laid lt low high =
    let other : has_address (segment_of e) a ≡ false =
    has_no_higher (segment_of e) a floor laid.0.segment (omega (arith, low, low_address (e.at + e.size) (e.address + e.size) (word + word_count (segment_of e)) rest i blank laid.1 (omega arith))) in
    word-cons (segment_of e) (segments_of rest) word a
    ∙ (ap (λ b. cond b (Some (word + (a - e.address) / 8)) (word_in (segments_of rest) (word + word_count (segment_of e)) a)) other
    ∙ found_entry (e.at + e.size) (e.address + e.size) (word + word_count (segment_of e)) rest a i laid.1 (omega arith) low (λ k lt le. high (suc k) (omega arith) (omega arith)))

-- the place of a word is in the last entry that does not begin behind it
offset-last : (s : Segment) (n : ℕ) → offset_in (s ∷ []) n ≡ s.at + 8 * n
unfolding offset_in
offset-last s n = refl

offset-cons : (s t : Segment) (rest : List Segment) (n : ℕ) → offset_in (s ∷ t ∷ rest) n ≡ cond (nat_lt n (word_count s)) (s.at + 8 * n) (offset_in (t ∷ rest) (n - word_count s))
unfolding offset_in
offset-cons s t rest n = refl

is_less : (n m : ℕ) → n < m → nat_lt n m ≡ true
is_less n m lt = grind (arith, nat_tests)

is_not_less : (n m : ℕ) → m ≤ n → nat_lt n m ≡ false
is_not_less n m le = grind (arith, nat_tests)

pub found_offset : (at floor word : ℕ) (es : List Entry) (n i : ℕ) → AreLaidFrom at floor word es → i < length es → (entry_at es i).begin ≤ n
    → ((k : ℕ) → i < k → k < length es → n < (entry_at es k).begin) → offset_in (segments_of es) (n - word) ≡ (entry_at es i).at + 8 * (n - (entry_at es i).begin)
found_offset at floor word [] n i laid lt low high = absurd (omega arith)
found_offset at floor word (e ∷ []) n zero laid lt low high = offset-last (segment_of e) (n - word) ∙ ap (λ w. e.at + 8 * (n - w)) (sym laid.0.begins)
found_offset at floor word (e ∷ []) n (suc i) laid lt low high = absurd (omega arith)
found_offset at floor word (e ∷ f ∷ rest) n zero laid lt low high =
    let before : n - word < word_count (segment_of e) = omega (arith, high 1 (omega arith) (omega arith), laid.1.0.begins, low, laid.0.begins) in
    offset-cons (segment_of e) (segment_of f) (segments_of rest) (n - word)
    ∙ (ap (λ b. cond b (e.at + 8 * (n - word)) (offset_in (segments_of (f ∷ rest)) (n - word - word_count (segment_of e)))) (is_less (n - word) (word_count (segment_of e)) before)
    ∙ ap (λ w. e.at + 8 * (n - w)) (sym laid.0.begins))
found_offset at floor word (e ∷ f ∷ rest) n (suc i) laid lt low high =
    let next : ℕ = word + word_count (segment_of e) in
    let behind : next ≤ n = omega (arith, low, low_begin (e.at + e.size) (e.address + e.size) next (f ∷ rest) i blank laid.1 (omega arith)) in
    let same : n - word - word_count (segment_of e) ≡ n - next = omega arith in
    offset-cons (segment_of e) (segment_of f) (segments_of rest) (n - word)
    ∙ (ap (λ b. cond b (e.at + 8 * (n - word)) (offset_in (segments_of (f ∷ rest)) (n - word - word_count (segment_of e)))) (is_not_less (n - word) (word_count (segment_of e)) (omega arith))
    ∙ (ap (offset_in (segments_of (f ∷ rest))) same
    ∙ found_offset (e.at + e.size) (e.address + e.size) next (f ∷ rest) n i laid.1 (omega arith) low (λ k lt le. high (suc k) (omega arith) (omega arith))))

pub found_within : (at floor word : ℕ) (es : List Entry) (n i : ℕ) → AreLaidFrom at floor word es → i < length es → n ≤ word + total_words (segments_of es)
    → ((k : ℕ) → i < k → k < length es → n < (entry_at es k).begin) → n ≤ (entry_at es i).begin + word_count (segment_of (entry_at es i))
found_within at floor word [] n i laid lt most high = absurd (omega arith)
found_within at floor word (e ∷ []) n zero laid lt most high = omega (arith, laid.0.begins, total-cons (segment_of e) [], most)
found_within at floor word (e ∷ []) n (suc i) laid lt most high = absurd (omega arith)
found_within at floor word (e ∷ f ∷ rest) n zero laid lt most high = omega (arith, high 1 (omega arith) (omega arith), laid.1.0.begins, laid.0.begins)
found_within at floor word (e ∷ f ∷ rest) n (suc i) laid lt most high =
    found_within (e.at + e.size) (e.address + e.size) (word + word_count (segment_of e)) (f ∷ rest) n i laid.1 (omega arith) (omega (arith, most, total-cons (segment_of e) (segments_of (f ∷ rest))))
    (λ k lt le. high (suc k) (omega arith) (omega arith))

pub first_begin : (es : List Entry) → AreLaid es → 0 < length es → (entry_at es 0).begin ≡ 0
first_begin [] laid lt = absurd (omega arith)
first_begin (e ∷ rest) laid lt = laid.laid.0.begins

pub no_entries : (es : List Entry) → length es ≡ 0 → (end_place header_bytes (segments_of es) ≡ header_bytes) × (total_words (segments_of es) ≡ 0)
unfolding end_place
no_entries [] is = (refl, refl)
no_entries (e ∷ rest) is = absurd (omega arith)

-- and no entries have no words
pub no_word : (es : List Entry) (a : ℕ) → length es ≡ 0 → word_in (segments_of es) 0 a ≡ None
no_word [] a is = word-none 0 a
no_word (e ∷ rest) a is = absurd (omega arith)

-- a test of a search that failed
pub is_above : (n m : ℕ) → leb n m ≡ false → m < n
is_above n m is = grind (arith, nat_tests)

pub is_empty_list : (n : ℕ) (b : Bool) → b ≡ (n == 0) → b ≡ true → n ≡ 0
is_empty_list n b is holds = grind (arith, nat_tests)

pub is_some_list : (n : ℕ) (b : Bool) → b ≡ (n == 0) → b ≡ false → 0 < n
is_some_list n b is fails = grind (arith, nat_tests)

pub no_end : (floor : ℕ) → end_address floor [] ≡ floor
unfolding end_address
no_end floor = refl

pub no_place : (at : ℕ) → end_place at [] ≡ at
unfolding end_place
no_place at = refl

-- the end behind a segment more
pub end_pushed : (floor : ℕ) (es : List Entry) (e : Entry) → end_address floor (segments_of (es ++ e ∷ [])) ≡ e.address + e.size
unfolding end_address
end_pushed floor [] e = refl
end_pushed floor (f ∷ rest) e = end_pushed (f.address + f.size) rest e

pub place_pushed : (at : ℕ) (es : List Entry) (e : Entry) → end_place at (segments_of (es ++ e ∷ [])) ≡ e.at + e.size
unfolding end_place
place_pushed at [] e = refl
place_pushed at (f ∷ rest) e = place_pushed (f.at + f.size) rest e

-- the segment of an entry
pub segment_of_entry : (es : List Entry) (i : ℕ) → i < length es → segment_at (segments_of es) i ≡ segment_of (entry_at es i)
segment_of_entry [] i lt = absurd (omega arith)
segment_of_entry (e ∷ rest) zero lt = refl
segment_of_entry (e ∷ rest) (suc i) lt = segment_of_entry rest i (omega arith)

low_end : (at floor word : ℕ) (es : List Entry) → AreLaidFrom at floor word es → at ≤ end_place at (segments_of es)
unfolding end_place
low_end at floor word [] laid = omega arith
low_end at floor word (e ∷ rest) laid = omega (arith, laid.0.place, low_end (e.at + e.size) (e.address + e.size) (word + word_count (segment_of e)) rest laid.1)

-- no segment ends behind the place behind them all
pub ends_within : (at floor word : ℕ) (es : List Entry) (i : ℕ) → AreLaidFrom at floor word es → i < length es → (entry_at es i).at + (entry_at es i).size ≤ end_place at (segments_of es)
unfolding end_place
ends_within at floor word [] i laid lt = absurd (omega arith)
ends_within at floor word (e ∷ rest) zero laid lt = low_end (e.at + e.size) (e.address + e.size) (word + word_count (segment_of e)) rest laid.1
ends_within at floor word (e ∷ rest) (suc i) laid lt = ends_within (e.at + e.size) (e.address + e.size) (word + word_count (segment_of e)) rest i laid.1 (omega arith)
