-- The words of a line, and what a word may be.
use Rattle.std.specs.Prelude.{◌++◌, ℕ, List, [], ◌∷◌, length, drop, slice_index, if◌then◌else◌, ◌==◌, Bool, ◌&&◌, ◌||◌, not, nat_le, nat_lt, Option, Some, None, option_and_then, ℤ, pos, neg_ℤ}
use Rattle.std.specs.List.{list_all}
use Rattle.std.specs.Str.Parse.{digits_value}
use Rattle.spur_graph.specs.Bytes.{Text}

-- a byte before the first word
abbrev pub onto_first : ℕ → List Text → List Text
onto_first b [] = (b ∷ []) ∷ []
onto_first b (word ∷ words) = (b ∷ word) ∷ words

-- the words of a line, cut at each space: two spaces in a row have an empty word between them
unfoldable pub words_of : Text → List Text
words_of [] = [] ∷ []
words_of (b ∷ bytes) = if b == 32 then [] ∷ words_of bytes else onto_first b (words_of bytes)

-- a lower-case letter
abbrev pub is_letter : ℕ → Bool
is_letter b = nat_le 97 b && nat_le b 122

-- an upper-case letter
abbrev pub is_capital : ℕ → Bool
is_capital b = nat_le 65 b && nat_le b 90

-- a decimal digit
abbrev pub is_digit : ℕ → Bool
is_digit b = nat_le 48 b && nat_le b 57

-- a lower-case letter, a digit or `_`
abbrev pub is_name_byte : ℕ → Bool
is_name_byte b = is_letter b || is_digit b || (b == 95)

-- a letter or a digit
abbrev pub is_file_first : ℕ → Bool
is_file_first b = is_letter b || is_capital b || is_digit b

-- a letter, a digit, `.`, `_` or `-`
abbrev pub is_file_byte : ℕ → Bool
is_file_byte b = is_file_first b || (b == 46) || (b == 95) || (b == 45)

-- a digit in base 16, letters small
abbrev pub is_hex_digit : ℕ → Bool
is_hex_digit b = is_digit b || (nat_le 97 b && nat_le b 102)

-- 1 to 16 lower-case letters, digits or `_`, a letter first
abbrev pub is_handle_name : Text → Bool
is_handle_name w = nat_le 1 (length w) && nat_le (length w) 16 && is_letter (slice_index w 0) && list_all is_name_byte w

-- 1 to 64 letters, digits, `.`, `_` or `-`, a letter or a digit first
abbrev pub is_file_name : Text → Bool
is_file_name w = nat_le 1 (length w) && nat_le (length w) 64 && is_file_first (slice_index w 0) && list_all is_file_byte w

-- `0`, or 1 to 20 digits without a leading zero
abbrev pub is_number : Text → Bool
is_number w = nat_le 1 (length w) && nat_le (length w) 20 && (nat_le (length w) 1 || not (slice_index w 0 == 48)) && list_all is_digit w

-- 16 digits in base 16
abbrev pub is_hex : Text → Bool
is_hex w = (length w == 16) && list_all is_hex_digit w

-- the handle's name that a word is
unfoldable pub name_in : Text → Option (Text)
name_in w = if is_handle_name w then Some w else None

-- the file's name that a word is
unfoldable pub file_in : Text → Option (Text)
file_in w = if is_file_name w then Some w else None

-- the number that a word is
unfoldable pub number_in : Text → Option ℕ
number_in w = if is_number w then Some (digits_value 10 w) else None

-- the machine word that 16 digits are
unfoldable pub hex_in : Text → Option ℕ
hex_in w = if is_hex w then Some (digits_value 16 w) else None

-- what follows where there is something
infixl 10 ◌>>=◌
abbrev pub ◌>>=◌ : {A B : Type 0} → Option A → (A → Option B) → Option B
o >>= f = option_and_then f o

-- a number, or `-` and a number that is not 0
unfoldable pub signed_in : Text → Option ℤ
signed_in w = if slice_index w 0 == 45
    then (number_in (drop 1 w) >>= λ n. if n == 0 then None else Some (neg_ℤ (pos n)))
    else (number_in w >>= λ n. Some (pos n))

-- `@` and a number 0 to 15
unfoldable pub mutator_in : Text → Option ℕ
mutator_in w = number_in (drop 1 w) >>= λ n. if nat_lt n 16 then Some n else None

-- words with one space between them
abbrev pub spaced : List Text → Text
spaced [] = []
spaced (w ∷ []) = w
spaced (w ∷ v ∷ ws) = w ++ 32 ∷ spaced (v ∷ ws)
