-- A bit of a list of words is written.
use Rattle.std.proofs.Common.{◌≡◌, ◌≢◌, ℕ, ◌+◌, ◌-◌, ◌*◌, ◌/◌, ◌%◌, ◌^◌, ◌<◌, ◌≤◌, List, length, Bool, true, false, nat_eq, get_or, set, get_or-set_same, get_or-set_other, arith, refl, sym, inl, inr, ap, ◌∙◌, w64, bit_and, bit_or}
use Rattle.std.specs.Int.{bit_at, trailing_zeros}
use Rattle.std.proofs.lemmas.Nat.Bits.{bit_at_set_same, bit_at_set_other, bit_at_clear_same, bit_at_clear_other, bit_at-trailing_zeros, bit_at_above, bit_at-zero}
use Rattle.std.proofs.lemmas.Bool.{cases_eq, cases_lt}
use Rattle.std.proofs.lemmas.List.{get_or_read}
use Rattle.std.proofs.lemmas.Nat.{pow-add}
use Rattle.std.proofs.Math.Nat.{div-div-eq-div-mul, div-le_self}
use Rattle.heap_walk.specs.Starts.{is_one}

abbrev test : ℕ → ℕ → Bool
test word i = nat_eq (bit_at word i) 1

module _ (xs : List ℕ) (at v w : ℕ) (inside : at / 64 < length xs) where
  is_one-set_same : is_one (set xs (at / 64) w) at ≡ test w (at % 64)
  is_one-set_same = rw get_or-set_same refl

  is_one-set_other : v ≡ get_or xs (at / 64) v → ((j : ℕ) → j < 64 → j ≢ at % 64 → bit_at w j ≡ bit_at v j)
      → (k : ℕ) → k ≢ at → is_one (set xs (at / 64) w) k ≡ is_one xs k
  is_one-set_other read keeps k ne =
      let was = get_or_read xs (at / 64) v inside read 0 in
      elim (cases_eq (k / 64) (at / 64)) [
        | inl same ↦ rw (same, get_or-set_same) (ap (λ b. nat_eq b 1) (keeps (k % 64) (omega arith) (omega arith) ∙ ap (λ n. bit_at n (k % 64)) was))
        | inr other ↦ rw get_or-set_other refl
      ]

-- the bit `at` is made 1 in its word `v`
module _ (xs : List ℕ) (at v : ℕ) (inside : at / 64 < length xs) where
  abbrev added : ℕ
  added = bit_or v (1 * 2 ^ (at % 64) % 2 ^ 64)

  pub is_one-added : is_one (set xs (at / 64) added) at ≡ true
  is_one-added = is_one-set_same xs at v added inside ∙ rw (bit_at_set_same w64 v (at % 64) (omega arith)) refl

  pub is_one-added_other : v ≡ get_or xs (at / 64) v → (k : ℕ) → k ≢ at → is_one (set xs (at / 64) added) k ≡ is_one xs k
  is_one-added_other read = is_one-set_other xs at v added inside read (λ j h ne. bit_at_set_other w64 v (at % 64) (omega arith) j ne)

-- the bit `at` is made 0 in its word `v`
module _ (xs : List ℕ) (at v : ℕ) (inside : at / 64 < length xs) where
  abbrev removed : ℕ
  removed = bit_and v (2 ^ 64 - 1 - 1 * 2 ^ (at % 64) % 2 ^ 64)

  pub is_one-removed : is_one (set xs (at / 64) removed) at ≡ false
  is_one-removed = is_one-set_same xs at v removed inside ∙ rw (bit_at_clear_same w64 v (at % 64) (omega arith)) refl

  pub is_one-removed_other : v ≡ get_or xs (at / 64) v → (k : ℕ) → k ≢ at → is_one (set xs (at / 64) removed) k ≡ is_one xs k
  is_one-removed_other read = is_one-set_other xs at v removed inside read (λ j h ne. bit_at_clear_other w64 v (at % 64) (omega arith) j h ne)

-- ---- the bits from `at` on in its word

bit_at-shr : (n m i : ℕ) → bit_at (n / 2 ^ m) i ≡ bit_at n (m + i)
bit_at-shr n m i = ap (λ q. q % 2) (div-div-eq-div-mul n (2 ^ m) (2 ^ i) ∙ ap (λ p. n / p) (sym (pow-add 2 m i)))

module _ (xs : List ℕ) (at v : ℕ) (inside : at / 64 < length xs) (read : v ≡ get_or xs (at / 64) v) where
  is_one-behind : (i : ℕ) → at % 64 + i < 64 → is_one xs (at + i) ≡ test (v / 2 ^ (at % 64)) i
  is_one-behind i low =
      let word : (at + i) / 64 ≡ at / 64 = omega arith in
      let bit : (at + i) % 64 ≡ at % 64 + i = omega arith in
      let was = get_or_read xs (at / 64) v inside read 0 in
      rw (word, bit) (ap (λ b. nat_eq b 1) (ap (λ n. bit_at n (at % 64 + i)) (sym was) ∙ sym (bit_at-shr v (at % 64) i)))

  -- the places of the next 1, where there is one
  pub record IsNext (t : ℕ) : Type 0 where
    pub within : at % 64 + t < 64
    pub one : is_one xs (at + t) ≡ true
    pub first : (k : ℕ) → at ≤ k → k < at + t → is_one xs k ≡ false

  pub is_next : v < 2 ^ 64 → v / 2 ^ (at % 64) ≢ 0 → IsNext (trailing_zeros w64 (v / 2 ^ (at % 64)))
  is_next small some =
      let rest : ℕ = v / 2 ^ (at % 64) in
      let t : ℕ = trailing_zeros w64 rest in
      let low : rest < 2 ^ 64 = omega (arith, div-le_self v (2 ^ (at % 64)), small) in
      let place = bit_at-trailing_zeros w64 rest (omega (arith, some)) low in
      let within : at % 64 + t < 64 = elim (cases_lt (at % 64 + t) 64) [
        | inl l ↦ l
        | inr high ↦ absurd (omega (arith, sym place.1 ∙ bit_at-shr v (at % 64) t ∙ bit_at_above v 64 (at % 64 + t) small high))
      ] in
      record {
        within = within;
        one = is_one-behind t within ∙ ap (λ b. nat_eq b 1) place.1;
        first = λ k from below.
            let back : at + (k - at) ≡ k = omega arith in
            ap (is_one xs) (sym back) ∙ is_one-behind (k - at) (omega (arith, within, below, from)) ∙ ap (λ b. nat_eq b 1) (place.2 (k - at) (omega (arith, below, from)));
      }

  pub none_behind : v / 2 ^ (at % 64) ≡ 0 → (k : ℕ) → at ≤ k → k < 64 * (at / 64 + 1) → is_one xs k ≡ false
  none_behind zero k from below =
      let back : at + (k - at) ≡ k = omega arith in
      ap (is_one xs) (sym back) ∙ is_one-behind (k - at) (omega arith) ∙ ap (λ n. test n (k - at)) zero ∙ ap (λ b. nat_eq b 1) (bit_at-zero (k - at))
