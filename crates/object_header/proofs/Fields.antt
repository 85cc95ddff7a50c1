use Rattle.std.proofs.Common.{◌≡◌, ℕ, ◌+◌, ◌-◌, ◌*◌, ◌/◌, ◌%◌, ◌^◌, ◌<◌, ◌≤◌, refl, sym, ap, ◌∙◌, arith, inl, inr, bit_and}
use Rattle.std.proofs.lemmas.Nat.{one_shl, and_mask, shr_split, shr-shr, shr_high, mod_low, field_of as low_field_of, mul-add-lt, shr_below, shl_whole, pow-add, mod_below, pow_pos}
use Rattle.std.proofs.Math.Pow.{mod-mod-pow}
use Rattle.object_header.specs.Field.{field_of, with_field, SetsField}

-- ---- reading a field

-- the shift and mask of the code give the field
pub shr-mask : (w lo len : ℕ) → len < 64 → bit_and (w / 2 ^ lo) (1 * 2 ^ len % 2 ^ 64 - 1) ≡ field_of lo len w
unfolding field_of
shr-mask w lo len short = rw (one_shl len 64 short) (and_mask (w / 2 ^ lo) len)

pub field_of-lt : (w lo len : ℕ) → field_of lo len w < 2 ^ len
unfolding field_of
field_of-lt w lo len = mod_below (w / 2 ^ lo) (2 ^ len) (pow_pos len)

-- a word is the bits above a field, the field, and the bits below it
pub whole_of_parts : (w lo len : ℕ) → (w / 2 ^ (lo + len) * 2 ^ len + field_of lo len w) * 2 ^ lo + w % 2 ^ lo ≡ w
unfolding field_of
whole_of_parts w lo len = rw (← shr-shr w lo len, shr_split (w / 2 ^ lo) len, shr_split w lo) refl

-- ---- writing a field

-- a field in its place is at most the word, so that it can be taken off
pub shl-field_of-le : (w lo len : ℕ) → lo + len ≤ 64 → field_of lo len w * 2 ^ lo % 2 ^ 64 ≤ w
shl-field_of-le w lo len within =
    rw (shl_whole (field_of lo len w) len lo 64 (field_of-lt w lo len) (omega arith)) (omega (arith, whole_of_parts w lo len))

-- taking the old number off and adding the new one, as the code does, writes the field
pub sub-add-with_field : (w lo len v : ℕ) → lo + len ≤ 64 → v < 2 ^ len
    → w - (field_of lo len w * 2 ^ lo % 2 ^ 64) + (v * 2 ^ lo % 2 ^ 64) ≡ with_field lo len w v
unfolding with_field
sub-add-with_field w lo len v within fits =
    rw (shl_whole (field_of lo len w) len lo 64 (field_of-lt w lo len) (omega arith), shl_whole v len lo 64 fits (omega arith))
    (omega (arith, whole_of_parts w lo len))

-- the bits above a field stay when it is written
pub shr-with_field : (w lo len v : ℕ) → v < 2 ^ len → with_field lo len w v / 2 ^ (lo + len) ≡ w / 2 ^ (lo + len)
unfolding with_field
shr-with_field w lo len v fits =
    rw (← shr-shr ((w / 2 ^ (lo + len) * 2 ^ len + v) * 2 ^ lo + w % 2 ^ lo) lo len, shr_high _ lo _ (mod_below w (2 ^ lo) (pow_pos lo)), shr_high _ len v fits)
    refl

pub field_of-with_field : (w lo len v : ℕ) → v < 2 ^ len → field_of lo len (with_field lo len w v) ≡ v
unfolding with_field field_of
field_of-with_field w lo len v fits =
    rw (shr_high _ lo _ (mod_below w (2 ^ lo) (pow_pos lo)), mod_low _ len v fits) refl

-- the bits below a field stay when it is written
pub mod-with_field : (w lo len v : ℕ) → with_field lo len w v % 2 ^ lo ≡ w % 2 ^ lo
unfolding with_field
mod-with_field w lo len v = mod_low _ lo _ (mod_below w (2 ^ lo) (pow_pos lo))

-- `rest` is the number of bits above the field
pub with_field-lt : (w lo len v rest : ℕ) → lo + len + rest ≡ 64 → w < 2 ^ 64 → v < 2 ^ len → with_field lo len w v < 2 ^ 64
unfolding with_field
with_field-lt w lo len v rest whole bound fits =
    let e : rest + (lo + len) ≡ 64 = omega arith in
    let e' : lo + (len + rest) ≡ 64 = omega arith in
    let upper : w < 2 ^ (rest + (lo + len)) = rw e bound in
    let high = mul-add-lt (w / 2 ^ (lo + len)) (2 ^ len) v (2 ^ rest) (shr_below w rest (lo + len) upper) fits in
    let all = mul-add-lt _ (2 ^ lo) (w % 2 ^ lo) (2 ^ len * 2 ^ rest) high (mod_below w (2 ^ lo) (pow_pos lo)) in
    let whole_power : 2 ^ lo * (2 ^ len * 2 ^ rest) ≡ 2 ^ 64 = rw (← pow-add 2 len rest, ← pow-add 2 lo (len + rest), e') refl in
    rw (← whole_power) all

-- ---- the field law

-- two words with the same low bits have the same fields in them
pub field_of-same_low : (a b lo la la' : ℕ) → a % 2 ^ lo ≡ b % 2 ^ lo → la + la' ≤ lo → field_of la la' a ≡ field_of la la' b
unfolding field_of
field_of-same_low a b lo la la' e h =
    let j = lo - (la' + la) in
    let whole : j + (la' + la) ≡ lo = omega arith in
    let cut : (n : ℕ) → n / 2 ^ la % 2 ^ la' ≡ n % 2 ^ lo % 2 ^ (la' + la) / 2 ^ la = λ n.
    rw (← whole, mod-mod-pow n j (la' + la)) (sym (low_field_of n la' la)) in
    cut a ∙ ap (λ m. m % 2 ^ (la' + la) / 2 ^ la) e ∙ sym (cut b)

-- two words with the same high bits have the same fields in them
pub field_of-same_high : (a b lo la la' : ℕ) → a / 2 ^ lo ≡ b / 2 ^ lo → lo ≤ la → field_of la la' a ≡ field_of la la' b
unfolding field_of
field_of-same_high a b lo la la' e h =
    let j = la - lo in
    let whole : lo + j ≡ la = omega arith in
    let cut : (n : ℕ) → n / 2 ^ la % 2 ^ la' ≡ n / 2 ^ lo / 2 ^ j % 2 ^ la' = λ n. rw (shr-shr n lo j, whole) refl in
    cut a ∙ ap (λ m. m / 2 ^ j % 2 ^ la') e ∙ sym (cut b)

pub SetsField-with_field : (w lo len v : ℕ) → v < 2 ^ len → SetsField lo len w v (with_field lo len w v)
SetsField-with_field w lo len v fits = record {
  reads = field_of-with_field w lo len v fits;
  others = λ a la apart. elim apart [
    | inl below ↦ field_of-same_low _ _ lo a la (mod-with_field w lo len v) below
    | inr above ↦ field_of-same_high _ _ (lo + len) a la (shr-with_field w lo len v fits) above
  ];
}
