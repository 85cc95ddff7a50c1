-- Units of 1, 2, 4 and 8 bytes in words of 8.
use Rattle.std.proofs.Common.{◌≡◌, ◌≢◌, ◌⊎◌, ℕ, Bool, true, false, cond, ◌-◌, ◌*◌, ◌/◌, ◌%◌, ◌^◌, ◌<◌, ◌≤◌, refl, inl, inr, arith, nat_lt, nat_eq}
use Rattle.std.proofs.lemmas.Bool.{cases_lt, cases_Bool, eqb-false}
use Rattle.object_header.specs.Field.{IsApart}
use Rattle.object_header.specs.Formats.{unit_bytes_of}
use Rattle.object_header.specs.Head.{whole_units}
use Rattle.spur_heap.specs.Sizes.{IsSize}

-- a format has no units, or they are of one of the sizes
size_of : (f : ℕ) → (unit_bytes_of f ≡ 0 → ⊥) → IsSize (unit_bytes_of f)
unfolding IsSize
size_of f some = go (nat_lt f 9) (nat_lt f 10) (nat_lt f 12) (nat_lt f 16) some
  where
    bytes : Bool → Bool → Bool → Bool → ℕ
    bytes a b c d = cond a 0 (cond b 8 (cond c 4 (cond d 2 1)))

    go : (a b c d : Bool) → (bytes a b c d ≡ 0 → ⊥)
        → (bytes a b c d ≡ 1) ⊎ ((bytes a b c d ≡ 2) ⊎ ((bytes a b c d ≡ 4) ⊎ (bytes a b c d ≡ 8)))
    go true b c d some = absurd (some refl)
    go false true c d some = inr (inr (inr refl))
    go false false true d some = inr (inr (inl refl))
    go false false false true some = inr (inl refl)
    go false false false false some = inl refl

-- an object that has a unit has units of one of the sizes, which fill its slots behind the pointers
pub record HasUnit (f slots pointers unused i : ℕ) : Type 0 where
  pub size : IsSize (unit_bytes_of f)
  pub low : i < (slots - pointers) * 8 / unit_bytes_of f - unused

pub has_unit : (f slots pointers unused i : ℕ) → i < whole_units f slots pointers - unused → HasUnit f slots pointers unused i
has_unit f slots pointers unused i low = elim (cases_Bool (nat_eq (unit_bytes_of f) 0)) [
  | inl none ↦ let k : i < 0 - unused = rw none at low in absurd (omega (arith, k))
  | inr some ↦ let k : i < (slots - pointers) * 8 / unit_bytes_of f - unused = rw some at low in record { size = size_of f (eqb-false (unit_bytes_of f) 0 some); low = k }
]

pub size_some : (u : ℕ) → IsSize u → (0 < u) × (u ≤ 8)
unfolding IsSize
size_some u s = elim s [
  | inl e ↦ (omega (arith, e), omega (arith, e))
  | inr r ↦ elim r [ inl e ↦ (omega (arith, e), omega (arith, e)) | inr q ↦ elim q [ inl e ↦ (omega (arith, e), omega (arith, e)) | inr e ↦ (omega (arith, e), omega (arith, e)) ] ]
]

-- a word of ones, moved down, has as many as a unit has bits
pub mask_is : (u : ℕ) → IsSize u → (2 ^ 64 - 1) / 2 ^ (64 - 8 * u) ≡ 2 ^ (8 * u) - 1
unfolding IsSize
mask_is u s = elim s [
  | inl e ↦ rw e refl
  | inr r ↦ elim r [ inl e ↦ rw e refl | inr q ↦ elim q [ inl e ↦ rw e refl | inr e ↦ rw e refl ] ]
]

-- units of one word share no bit
pub units_apart : (u i k : ℕ) → IsSize u → i ≢ k → i * u / 8 ≡ k * u / 8 → IsApart (8 * (i * u % 8)) (8 * u) (8 * (k * u % 8)) (8 * u)
unfolding IsSize
units_apart u i k size ne same = elim size [
  | inl e ↦ rw e (one i k ne (rw e at same))
  | inr r ↦ elim r [
    | inl e ↦ rw e (two i k ne (rw e at same))
    | inr q ↦ elim q [
      | inl e ↦ rw e (four i k ne (rw e at same))
      | inr e ↦ let s : i * 8 / 8 ≡ k * 8 / 8 = rw e at same in absurd (ne (omega (arith, s)))
    ]
  ]
]
  where
    one : (i k : ℕ) → i ≢ k → i * 1 / 8 ≡ k * 1 / 8 → IsApart (8 * (i * 1 % 8)) (8 * 1) (8 * (k * 1 % 8)) (8 * 1)
    one i k ne s = elim (cases_lt i k) [ inl l ↦ inl (omega arith) | inr l ↦ inr (omega arith) ]

    two : (i k : ℕ) → i ≢ k → i * 2 / 8 ≡ k * 2 / 8 → IsApart (8 * (i * 2 % 8)) (8 * 2) (8 * (k * 2 % 8)) (8 * 2)
    two i k ne s = elim (cases_lt i k) [ inl l ↦ inl (omega arith) | inr l ↦ inr (omega arith) ]

    four : (i k : ℕ) → i ≢ k → i * 4 / 8 ≡ k * 4 / 8 → IsApart (8 * (i * 4 % 8)) (8 * 4) (8 * (k * 4 % 8)) (8 * 4)
    four i k ne s = elim (cases_lt i k) [ inl l ↦ inl (omega arith) | inr l ↦ inr (omega arith) ]

-- the bytes of a unit are among those of the words that hold units
pub unit_inside : (u i n m : ℕ) → IsSize u → i < n * 8 / u - m → (i * u / 8 < n) × (i * u < n * 8)
unfolding IsSize
unit_inside u i n m size l = elim size [
  | inl e ↦ let k : i < n * 8 / 1 - m = rw e at l in rw e (omega (arith, k), omega (arith, k))
  | inr r ↦ elim r [
    | inl e ↦ let k : i < n * 8 / 2 - m = rw e at l in rw e (omega (arith, k), omega (arith, k))
    | inr q ↦ elim q [
      | inl e ↦ let k : i < n * 8 / 4 - m = rw e at l in rw e (omega (arith, k), omega (arith, k))
      | inr e ↦ let k : i < n * 8 / 8 - m = rw e at l in rw e (omega (arith, k), omega (arith, k))
    ]
  ]
]
