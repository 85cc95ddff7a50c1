-- Words and addresses of segments that rise.
use Rattle.std.proofs.Common.{◌≡◌, ℕ, ◌+◌, ◌*◌, ◌/◌, ◌%◌, ◌-◌, ◌≤◌, ◌<◌, List, [], ◌∷◌, Some, None, Bool, true, false, nat_eq, nat_lt, ◌&&◌, not, cond, arith, refl, sym, ap, subst, ◌∙◌, inl, inr}
use Rattle.std.proofs.lemmas.Bool.{cases_lt, cases_Bool}
use Rattle.std.proofs.lemmas.Bool.Decides.{nat_tests}
use Rattle.std.proofs.lemmas.List.Sums.{sum_by-cons}
use Rattle.std.proofs.lemmas.Option.{none-some, same_Some}
use Rattle.spur_graph.specs.Segments.{Segment, end_of, word_count, total_words, word_in, address_in}
use Rattle.heap_segments.specs.Rising.{IsAbove, IsRising, has_address, IsOneToOne, HasItsWord, HasItsAddress, AreInOrder}

pub total-cons : (s : Segment) (rest : List Segment) → total_words (s ∷ rest) ≡ word_count s + total_words rest
total-cons s rest = sum_by-cons word_count s rest

pub word-cons : (s : Segment) (rest : List Segment) (at a : ℕ) → word_in (s ∷ rest) at a ≡ cond (has_address s a) (Some (at + (a - s.address) / 8)) (word_in rest (at + word_count s) a)
unfolding word_in
word-cons s rest at a = refl

pub word-none : (at a : ℕ) → word_in [] at a ≡ None
unfolding word_in
word-none at a = refl

pub address-cons : (s : Segment) (rest : List Segment) (n : ℕ) → address_in (s ∷ rest) n ≡ cond (nat_lt n (word_count s)) (s.address + 8 * n) (address_in rest (n - word_count s))
unfolding address_in
address-cons s rest n = refl

-- an address is within, or it is not
inside : (low high a : ℕ) → (nat_eq (a % 8) 0 && not (nat_lt a low) && nat_lt a high) ≡ true → (a % 8 ≡ 0) × (low ≤ a) × (a < high)
inside low high a is = (grind (arith, nat_tests), grind (arith, nat_tests), grind (arith, nat_tests))

within : (low high a : ℕ) → a % 8 ≡ 0 → low ≤ a → a < high → (nat_eq (a % 8) 0 && not (nat_lt a low) && nat_lt a high) ≡ true
within low high a aligned le lt = grind (arith, nat_tests)

below : (low high a : ℕ) → a < low → (nat_eq (a % 8) 0 && not (nat_lt a low) && nat_lt a high) ≡ false
below low high a lt = grind (arith, nat_tests)

beyond : (low high a : ℕ) → high ≤ a → (nat_eq (a % 8) 0 && not (nat_lt a low) && nat_lt a high) ≡ false
beyond low high a le = grind (arith, nat_tests)

pub has_no_lower : (s : Segment) (a : ℕ) → a < s.address → has_address s a ≡ false
has_no_lower s a lt = below s.address (s.address + 8 * word_count s) a lt

pub has_no_higher : (s : Segment) (a floor : ℕ) → IsAbove floor s → end_of s ≤ a → has_address s a ≡ false
has_no_higher s a floor is le = beyond s.address (s.address + 8 * word_count s) a (omega (arith, is.some))

-- an address that has a word
record IsFound (segs : List Segment) (at a n : ℕ) : Type 0 where
  after : at ≤ n
  before : n < at + total_words segs
  there : address_in segs (n - at) ≡ a

found_here : (s : Segment) (rest : List Segment) (at a n floor : ℕ) → IsAbove floor s → has_address s a ≡ true → at + (a - s.address) / 8 ≡ n → IsFound (s ∷ rest) at a n
found_here s rest at a n floor is has same =
    let parts : (a % 8 ≡ 0) × (s.address ≤ a) × (a < s.address + 8 * word_count s) = inside s.address (s.address + 8 * word_count s) a has in
    let low : n - at < word_count s = omega (arith, parts.0, parts.1, parts.2, is.aligned) in
    let test : nat_lt (n - at) (word_count s) ≡ true = grind (arith, nat_tests) in
    record {
      after = omega arith;
      before = omega (arith, total-cons s rest);
      there = address-cons s rest (n - at) ∙ (ap (λ b. cond b (s.address + 8 * (n - at)) (address_in rest (n - at - word_count s))) test ∙ omega (arith, parts.0, parts.1, is.aligned));
    }

found_later : (s : Segment) (rest : List Segment) (at a n : ℕ) → IsFound rest (at + word_count s) a n → IsFound (s ∷ rest) at a n
found_later s rest at a n of =
    let test : nat_lt (n - at) (word_count s) ≡ false = let le : word_count s ≤ n - at = omega (arith, of.after) in grind (arith, nat_tests) in
    let step : n - at - word_count s ≡ n - (at + word_count s) = omega arith in
    record {
      after = omega (arith, of.after);
      before = omega (arith, of.before, total-cons s rest);
      there = address-cons s rest (n - at) ∙ (ap (λ b. cond b (s.address + 8 * (n - at)) (address_in rest (n - at - word_count s))) test ∙ (ap (address_in rest) step ∙ of.there));
    }

found : (segs : List Segment) (floor at a n : ℕ) → IsRising floor segs → word_in segs at a ≡ Some n → IsFound segs at a n
found [] floor at a n rising is = absurd (let e : None ≡ Some n = sym (word-none at a) ∙ is in let f : ⊥ = cc in f)
found (s ∷ rest) floor at a n rising is = go (has_address s a) refl (found rest (end_of s) (at + word_count s) a n rising.1)
  where
    told : (b : Bool) → has_address s a ≡ b → cond b (Some (at + (a - s.address) / 8)) (word_in rest (at + word_count s) a) ≡ Some n
    told b has = sym (ap (λ t. cond t (Some (at + (a - s.address) / 8)) (word_in rest (at + word_count s) a)) has) ∙ (sym (word-cons s rest at a) ∙ is)

    go : (b : Bool) → has_address s a ≡ b → (word_in rest (at + word_count s) a ≡ Some n → IsFound rest (at + word_count s) a n) → IsFound (s ∷ rest) at a n
    go true has later = found_here s rest at a n floor rising.0 has (same_Some _ _ (told true has))
    go false has later = found_later s rest at a n (later (told false has))

pub has_its_address : HasItsAddress
has_its_address segs a n rising is =
    let of : IsFound segs 0 a n = found segs 0 0 a n rising is in
    let same : n ≡ n - 0 = omega arith in
    (omega (arith, of.before), ap (address_in segs) same ∙ of.there)

pub is_one_to_one : IsOneToOne
is_one_to_one segs a b n rising is is' = sym (has_its_address segs a n rising is).1 ∙ (has_its_address segs b n rising is').1

-- the address of a word, which has this word
record IsWord (segs : List Segment) (floor at n a : ℕ) : Type 0 where
  word : word_in segs at a ≡ Some (at + n)
  high : floor ≤ a

word_here : (s : Segment) (rest : List Segment) (floor at n a : ℕ) → IsAbove floor s → n < word_count s → a ≡ s.address + 8 * n → IsWord (s ∷ rest) floor at n a
word_here s rest floor at n a is low there =
    let has : has_address s a ≡ true = within s.address (s.address + 8 * word_count s) a (omega (arith, is.aligned)) (omega arith) (omega arith) in
    let same : at + (a - s.address) / 8 ≡ at + n = omega arith in
    record {
      word = word-cons s rest at a ∙ (ap (λ b. cond b (Some (at + (a - s.address) / 8)) (word_in rest (at + word_count s) a)) has ∙ ap (λ (m : ℕ). Some m) same);
      high = omega (arith, is.above);
    }

word_later : (s : Segment) (rest : List Segment) (floor at n a : ℕ) → IsAbove floor s → word_count s ≤ n → IsWord rest (end_of s) (at + word_count s) (n - word_count s) a → IsWord (s ∷ rest) floor at n a
word_later s rest floor at n a is high of =
    let has : has_address s a ≡ false = has_no_higher s a floor is of.high in
    let same : at + word_count s + (n - word_count s) ≡ at + n = omega arith in
    record {
      word = word-cons s rest at a ∙ (ap (λ b. cond b (Some (at + (a - s.address) / 8)) (word_in rest (at + word_count s) a)) has ∙ (of.word ∙ ap (λ (m : ℕ). Some m) same));
      high = omega (arith, is.above, of.high);
    }

worded : (segs : List Segment) (floor at n : ℕ) → IsRising floor segs → n < total_words segs → IsWord segs floor at n (address_in segs n)
worded [] floor at n rising lt = absurd (omega arith)
worded (s ∷ rest) floor at n rising lt = elim (cases_lt n (word_count s)) [
  | inl low ↦
      let test : nat_lt n (word_count s) ≡ true = grind (arith, nat_tests) in
      word_here s rest floor at n (address_in (s ∷ rest) n) rising.0 low (address-cons s rest n ∙ ap (λ b. cond b (s.address + 8 * n) (address_in rest (n - word_count s))) test)
  | inr high ↦
      let test : nat_lt n (word_count s) ≡ false = grind (arith, nat_tests) in
      let there : address_in rest (n - word_count s) ≡ address_in (s ∷ rest) n = sym (address-cons s rest n ∙ ap (λ b. cond b (s.address + 8 * n) (address_in rest (n - word_count s))) test) in
      let of : IsWord rest (end_of s) (at + word_count s) (n - word_count s) (address_in rest (n - word_count s)) = worded rest (end_of s) (at + word_count s) (n - word_count s) rising.1 (omega (arith, total-cons s rest)) in
      word_later s rest floor at n (address_in (s ∷ rest) n) rising.0 high (subst (λ (a : ℕ). IsWord rest (end_of s) (at + word_count s) (n - word_count s) a) there of)
]

pub has_its_word : HasItsWord
has_its_word segs n rising lt =
    let same : 0 + n ≡ n = omega arith in
    (worded segs 0 0 n rising lt).word ∙ ap (λ (m : ℕ). Some m) same

-- words stand in the order of their addresses
in_order_from : (segs : List Segment) (floor at a b s t : ℕ) → IsRising floor segs → word_in segs at a ≡ Some s → word_in segs at b ≡ Some t → a < b → s < t
in_order_from [] floor at a b s t rising is other lt = absurd (none-some s (sym (word-none at a) ∙ is))
in_order_from (x ∷ rest) floor at a b s t rising is other lt = elim (cases_Bool (has_address x a)) [
  | inl on ↦
      let here : at + (a - x.address) / 8 ≡ s = same_Some _ _ (told a s true on is) in
      let parts : (a % 8 ≡ 0) × (x.address ≤ a) × (a < x.address + 8 * word_count x) = inside x.address (x.address + 8 * word_count x) a on in
      elim (cases_Bool (has_address x b)) [
        | inl too ↦
            let there : at + (b - x.address) / 8 ≡ t = same_Some _ _ (told b t true too other) in
            let ends : (b % 8 ≡ 0) × (x.address ≤ b) × (b < x.address + 8 * word_count x) = inside x.address (x.address + 8 * word_count x) b too in
            omega (arith, here, there, parts.0, parts.1, ends.0, ends.1, rising.0.aligned, lt)
        | inr past ↦
            let behind = found rest (end_of x) (at + word_count x) b t rising.1 (told b t false past other) in
            omega (arith, here, parts.0, parts.1, parts.2, rising.0.aligned, behind.after)
      ]
  | inr off ↦
      let later = told a s false off is in
      elim (cases_Bool (has_address x b)) [
        | inl too ↦
            let ends : (b % 8 ≡ 0) × (x.address ≤ b) × (b < x.address + 8 * word_count x) = inside x.address (x.address + 8 * word_count x) b too in
            let behind = found rest (end_of x) (at + word_count x) a s rising.1 later in
            let high = (worded rest (end_of x) (at + word_count x) (s - (at + word_count x)) rising.1 (omega (arith, behind.after, behind.before))).high in
            absurd (omega (arith, high, behind.there, ends.2, rising.0.some, lt))
        | inr past ↦ in_order_from rest (end_of x) (at + word_count x) a b s t rising.1 later (told b t false past other) lt
      ]
]
  where
    told : (c n : ℕ) (test : Bool) → has_address x c ≡ test → word_in (x ∷ rest) at c ≡ Some n → cond test (Some (at + (c - x.address) / 8)) (word_in rest (at + word_count x) c) ≡ Some n
    told c n test has e = sym (ap (λ k. cond k (Some (at + (c - x.address) / 8)) (word_in rest (at + word_count x) c)) has) ∙ (sym (word-cons x rest at c) ∙ e)

pub in_order : (segs : List Segment) → IsRising 0 segs → AreInOrder segs
in_order segs rising a b s t = in_order_from segs 0 0 a b s t rising
