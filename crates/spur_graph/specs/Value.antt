-- Values, and the tagged words that stand for them.
use Rattle.std.specs.Prelude.{◌<◌, ◌≤ℤ◌, ◌<ℤ◌, ℕ, ◌-◌, ◌/◌, ◌%◌, ◌^◌, ℤ, pos, neg_ℤ, negsuc, ◌≡◌, Bool, true, false, if◌then◌else◌, ◌==◌, ◌&&◌, ◌||◌, nat_lt, Option, Some, None}
use Rattle.std.specs.Option.{unwrap_or}
use Rattle.spur_graph.specs.declared.answer.Value.{Value}
use Rattle.spur_graph.specs.declared.answer.Value.TheVariants.{Int, Char, Float, Ref}

-- the numbers, codes and words that values have
abbrev pub IsValue : Value → Type 0
IsValue (Int n) = (neg_ℤ (pos (2 ^ 60)) ≤ℤ n) × (n <ℤ pos (2 ^ 60))
IsValue (Char c) = c < 2 ^ 30
IsValue (Float w) = (w < 2 ^ 64) × (w % 8 ≡ 4)
IsValue (Ref a) = Unit {0}

-- the name that a reference names
abbrev pub named_by : Value → Option ℕ
named_by (Int n) = None
named_by (Char c) = None
named_by (Float w) = None
named_by (Ref a) = Some a

-- the name that a reference names; an immediate is refused before this is asked
abbrev pub name_of : Value → ℕ
name_of v = unwrap_or (named_by v) 0

-- an immediate is a value that names nothing
abbrev pub is_immediate : Value → Bool
is_immediate (Int n) = true
is_immediate (Char c) = true
is_immediate (Float w) = true
is_immediate (Ref a) = false

-- two whole numbers are equal
abbrev pub same_int : ℤ → ℤ → Bool
same_int (pos m) (pos n) = m == n
same_int (pos m) (negsuc n) = false
same_int (negsuc m) (pos n) = false
same_int (negsuc m) (negsuc n) = m == n

-- both are one value: the same number, code or word, or the same name
abbrev pub same_value : Value → Value → Bool
same_value (Int m) (Int n) = same_int m n
same_value (Int m) (Char n) = false
same_value (Int m) (Float n) = false
same_value (Int m) (Ref n) = false
same_value (Char m) (Int n) = false
same_value (Char m) (Char n) = m == n
same_value (Char m) (Float n) = false
same_value (Char m) (Ref n) = false
same_value (Float m) (Int n) = false
same_value (Float m) (Char n) = false
same_value (Float m) (Float n) = m == n
same_value (Float m) (Ref n) = false
same_value (Ref m) (Int n) = false
same_value (Ref m) (Char n) = false
same_value (Ref m) (Float n) = false
same_value (Ref m) (Ref n) = m == n

-- the word is that of an immediate: a SmallInteger, a Character whose code is below 2^30, or a SmallFloat
abbrev pub is_immediate_word : ℕ → Bool
is_immediate_word word = (word % 8 == 1) || ((word % 8 == 2) && nat_lt (word / 8) (2 ^ 30)) || (word % 8 == 4)

-- the upper 61 bits of a word, signed
abbrev pub int_of : ℕ → ℤ
int_of word = if nat_lt word (2 ^ 63) then pos (word / 8) else negsuc ((2 ^ 64 - 1 - word) / 8)

-- the value of a word by its low three bits: 000 is a reference, whose value `named` gives, 001 a SmallInteger, 010 a Character,
-- 100 a SmallFloat; none for another tag, and none for a Character with too great a code
abbrev pub value_of : (ℕ → Value) → ℕ → Option Value
value_of named word =
    if word % 8 == 0 then Some (named word)
    else if word % 8 == 1 then Some (Int (int_of word))
    else if word % 8 == 2 then (if nat_lt (word / 8) (2 ^ 30) then Some (Char (word / 8)) else None)
    else if word % 8 == 4 then Some (Float word)
    else None

-- the low bits of a SmallInteger's number
abbrev pub low_bits : ℕ → ℤ → ℕ
low_bits n (pos m) = m % 2 ^ n
low_bits n (negsuc m) = 2 ^ n - 1 - m % 2 ^ n
