-- The base image: a small image with every internal object and the classes that scripts need. Its heap has 6,286 words.
use Rattle.std.specs.Prelude.{ℕ, ◌+◌, ◌-◌, ◌*◌, ◌/◌, ◌%◌, ◌^◌, List, [], ◌∷◌, ◌++◌, map, replicate, slice_index, if◌then◌else◌, ◌==◌, nat_lt}
use Rattle.std.specs.List.{flat_map, range_with_len}
use Rattle.std.specs.Int.{w32, w64, to_le_bytes}

-- a header word without flags
abbrev pub head_word : ℕ → ℕ → ℕ → ℕ → ℕ
head_word count hash format class = count * 2 ^ 56 + hash * 2 ^ 32 + format * 2 ^ 24 + class

-- an overflow word of so many slots
abbrev pub overflow_word : ℕ → ℕ
overflow_word slots = 255 * 2 ^ 56 + slots

-- the address of the first word
abbrev pub base_address : ℕ
base_address = 1048576

-- the address of a word
abbrev pub at : ℕ → ℕ
at w = base_address + 8 * w

-- nil stands at the first word
abbrev pub nil : ℕ
nil = at 0

-- the indices of the classes, which are their hashes too; slot 2 of a class says instance format and fixed slots
abbrev pub class_indices : List ℕ
class_indices = 1 ∷ 2 ∷ 4 ∷ 32 ∷ 33 ∷ 51 ∷ 52 ∷ 53 ∷ 54 ∷ 55 ∷ 56 ∷ []

-- in their order, the numbers in their slots 2
abbrev pub layouts : List ℕ
layouts = 0 ∷ 0 ∷ 0 ∷ 65539 ∷ 0 ∷ 131072 ∷ 1048576 ∷ 262145 ∷ 327682 ∷ 65538 ∷ 196609 ∷ []

-- the address of class `k` of these, from 0
abbrev pub class_at : ℕ → ℕ
class_at k = at (6229 + 4 * k)

-- word `j` of class `k`: its header, nil twice, and its layout as a SmallInteger
abbrev pub class_word : ℕ → ℕ → ℕ
class_word k j =
    if j == 0 then head_word 3 (slice_index class_indices k) 1 32
    else if j == 3 then 8 * slice_index layouts k + 1
    else nil

-- entry `i` of the first class table page
abbrev pub entry : ℕ → ℕ
entry i =
    if i == 1 then class_at 0 else if i == 2 then class_at 1 else if i == 4 then class_at 2
    else if i == 32 then class_at 3 else if i == 33 then class_at 4
    else if nat_lt i 51 then nil else if nat_lt i 57 then class_at (i - 46) else nil

-- slot `i` of the special objects array: nil, false, true, and the classes 51 to 56 and 32
abbrev pub special_slot : ℕ → ℕ
special_slot i = if nat_lt i 3 then at (2 * i) else if nat_lt i 9 then class_at (i + 2) else class_at 3

-- the word of each index
unfoldable pub base_word : ℕ → ℕ
base_word i =
    if nat_lt i 6 then (if i % 2 == 0 then head_word 0 0 0 33 else 0)
    else if nat_lt i 71 then (if i == 6 then head_word 64 0 9 19 else 0)
    else if nat_lt i 4177 then
    (if i == 71 then overflow_word 4104 else if i == 72 then head_word 255 0 2 16
    else if i == 73 then at 4178 else if i == 74 then at 5204 else nil)
    else if nat_lt i 5203 then (if i == 4177 then overflow_word 1024 else if i == 4178 then head_word 255 0 2 16 else entry (i - 4179))
    else if nat_lt i 6229 then (if i == 5203 then overflow_word 1024 else if i == 5204 then head_word 255 0 2 16 else nil)
    else if nat_lt i 6273 then class_word ((i - 6229) / 4) ((i - 6229) % 4)
    else if nat_lt i 6284 then (if i == 6273 then head_word 10 0 2 51 else special_slot (i - 6274))
    else 0

-- with the bridge
abbrev pub base_word_count : ℕ
base_word_count = 6286

-- the 128 bytes of the header
unfoldable pub base_header : List ℕ
base_header =
    to_le_bytes w32 68021 ++ (to_le_bytes w32 128 ++ (to_le_bytes w64 (8 * base_word_count) ++ (to_le_bytes w64 base_address
    ++ (to_le_bytes w64 (at 6273) ++ (to_le_bytes w64 1 ++ (replicate 32 0 ++ (to_le_bytes w64 (8 * base_word_count) ++ replicate 48 0)))))))

-- all words of the heap
unfoldable pub base_words : List ℕ
base_words = map base_word (range_with_len 0 base_word_count)

-- the bytes of the file
unfoldable pub base_image : List ℕ
base_image = base_header ++ flat_map (to_le_bytes w64) base_words
