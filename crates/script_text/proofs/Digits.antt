-- Words of digits, their values and bounds, and names, which are ASCII.
use Rattle.std.proofs.Common.{◌≡◌, ℕ, zero, suc, ◌+◌, ◌*◌, ◌^◌, ◌<◌, ◌≤◌, List, [], ◌∷◌, length, get_or, take, sym, refl, ap, ◌∙◌, arith, Bool, true, false}
use Rattle.std.specs.Prelude.{◌&&◌, ◌==◌, IsUtf8, nat_le}
use Rattle.std.specs.List.{list_all}
use Rattle.std.specs.Char.{digit_value}
use Rattle.std.specs.Str.Parse.{digits_value, AllDigits}
use Rattle.std.proofs.lemmas.Int.Digits.{digits_value-lt, digits_value_more}
use Rattle.std.proofs.lemmas.Str.Parse.{digits_value-take-le}
use Rattle.std.proofs.Math.Nat.{pow-le-pow_right}
use Rattle.std.proofs.lemmas.Str.{IsUtf8-from_ascii}
use Rattle.spur_graph.specs.Words.{is_digit, is_hex_digit, is_name_byte, is_file_byte, is_handle_name, is_file_name, is_number, is_hex}

-- one digit more, and the value so far is no greater than that of all digits
pub step : (radix : ℕ) (ds : List ℕ) (i n d : ℕ) → 1 ≤ radix → i < length ds → n ≡ digits_value radix (take i ds) → d ≡ digit_value (get_or ds i 0) → (n * radix + d ≡ digits_value radix (take (i + 1) ds)) × (digits_value radix (take (i + 1) ds) ≤ digits_value radix ds)
step radix ds i n d some within so_far is = ((λ k. so_far k * radix + is k) ∙ sym (digits_value_more radix ds i within), digits_value-take-le radix ds (i + 1) some)

pub both : (a b : Bool) → (a && b) ≡ true → (a ≡ true) × (b ≡ true)
both true b is = (refl, is)
both false b is = cc

pub all_at : (p : ℕ → Bool) (xs : List ℕ) (i : ℕ) → list_all p xs ≡ true → i < length xs → p (get_or xs i 0) ≡ true
all_at p [] i all within = absurd (omega arith)
all_at p (x ∷ xs) zero all within = (both (p x) (list_all p xs) all).0
all_at p (x ∷ xs) (suc i) all within = all_at p xs i (both (p x) (list_all p xs) all).1 (omega arith)

digit_small : (c : ℕ) → is_digit c ≡ true → digit_value c < 10
digit_small c is = grind arith

low_letter : (c : ℕ) → (nat_le 97 c && nat_le c 102) ≡ true → digit_value c < 16
low_letter c is = grind arith

hex_small : (c : ℕ) → is_hex_digit c ≡ true → digit_value c < 16
hex_small c is = elim (is_digit c) as (λ v. is_digit c ≡ v → digit_value c < 16) [
  | true ↦ λ e. omega (arith, digit_small c e)
  | false ↦ λ e. low_letter c (rw e at is)
] refl

digit_hex : (c : ℕ) → is_digit c ≡ true → is_hex_digit c ≡ true
digit_hex c is = cc

name_ascii : (c : ℕ) → is_name_byte c ≡ true → c < 128
name_ascii c is = grind arith

file_ascii : (c : ℕ) → is_file_byte c ≡ true → c < 128
file_ascii c is = grind arith

pub all_mono : (p q : ℕ → Bool) → ((c : ℕ) → p c ≡ true → q c ≡ true) → (xs : List ℕ) → list_all p xs ≡ true → list_all q xs ≡ true
all_mono p q more [] all = refl
all_mono p q more (x ∷ xs) all =
    let parts = both (p x) (list_all p xs) all in
    let here = more x parts.0 in
    let rest = all_mono p q more xs parts.1 in
    rw here rest

all_digits : (radix : ℕ) (p : ℕ → Bool) → ((c : ℕ) → p c ≡ true → digit_value c < radix) → (xs : List ℕ) → list_all p xs ≡ true → AllDigits radix xs
all_digits radix p small [] all = tt
all_digits radix p small (x ∷ xs) all = let parts = both (p x) (list_all p xs) all in (small x parts.0, all_digits radix p small xs parts.1)

ascii : (p : ℕ → Bool) → ((c : ℕ) → p c ≡ true → c < 128) → (xs : List ℕ) → list_all p xs ≡ true → (i : ℕ) → get_or xs i 0 < 128
ascii p low [] all i = omega arith
ascii p low (x ∷ xs) all zero = low x (both (p x) (list_all p xs) all).0
ascii p low (x ∷ xs) all (suc i) = ascii p low xs (both (p x) (list_all p xs) all).1 i

pub name_utf8 : (w : List ℕ) → is_handle_name w ≡ true → IsUtf8 w
name_utf8 w is = IsUtf8-from_ascii w (ascii is_name_byte name_ascii w (both _ (list_all is_name_byte w) is).1)

pub file_utf8 : (w : List ℕ) → is_file_name w ≡ true → IsUtf8 w
file_utf8 w is = IsUtf8-from_ascii w (ascii is_file_byte file_ascii w (both _ (list_all is_file_byte w) is).1)

number_length : (w : List ℕ) → is_number w ≡ true → length w ≤ 20
number_length w is = grind arith

pub number_digits : (w : List ℕ) → is_number w ≡ true → list_all is_hex_digit w ≡ true
number_digits w is = all_mono is_digit is_hex_digit digit_hex w (both _ (list_all is_digit w) is).1

pub number_small : (w : List ℕ) → is_number w ≡ true → digits_value 10 w < 10 ^ 20
number_small w is =
    let small = digits_value-lt 10 w (all_digits 10 is_digit digit_small w (both _ (list_all is_digit w) is).1) in
    let top : 10 ^ length w ≤ 10 ^ 20 = pow-le-pow_right (omega arith) (number_length w is) in
    omega arith

hex_length : (w : List ℕ) → is_hex w ≡ true → length w ≡ 16
hex_length w is = grind arith

pub hex_digits : (w : List ℕ) → is_hex w ≡ true → list_all is_hex_digit w ≡ true
hex_digits w is = (both (length w == 16) (list_all is_hex_digit w) is).1

pub hex_bound : (w : List ℕ) → is_hex w ≡ true → digits_value 16 w < 2 ^ 64
hex_bound w is =
    let small = digits_value-lt 16 w (all_digits 16 is_hex_digit hex_small w (hex_digits w is)) in
    let top : 16 ^ length w ≡ 2 ^ 64 = ap (λ n. 16 ^ n) (hex_length w is) in
    omega arith
