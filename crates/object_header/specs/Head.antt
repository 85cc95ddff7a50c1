use Rattle.std.specs.Prelude.{ℕ, ◌+◌, ◌-◌, ◌*◌, ◌/◌, if◌then◌else◌, nat_lt, nat_eq, ◌&&◌, ◌||◌, not, Bool, List, length, slice_index, Result, Ok, Err, max}
use Rattle.object_header.specs.Field.{field_of}
use Rattle.object_header.specs.Formats.{unit_bytes_of, unused_of, is_method, pointer_slots_of}
use Rattle.object_header.specs.declared.head.Head.{Head}
use Rattle.object_header.specs.declared.head.HeadError.{HeadError}
use Rattle.object_header.specs.declared.head.HeadError.TheVariants.{Overrun, BadCount, BadFormat}
use Rattle.object_header.specs.declared.head.TheConstants.{SMALL_INTEGER_TAG}
use Rattle.object_header.specs.declared.header.TheConstants.{FREE_CLASS, BRIDGE_CLASS, FORWARDER_CLASS, OVERFLOW_COUNT}

-- the slot count of a header word, or the mark of an overflow word
abbrev pub count_of : ℕ → ℕ
count_of header = field_of 56 8 header

-- the identity hash of a header word
abbrev pub hash_of : ℕ → ℕ
hash_of header = field_of 32 22 header

-- the format of a header word
abbrev pub format_of : ℕ → ℕ
format_of header = field_of 24 5 header

-- the class index of a header word
abbrev pub class_of : ℕ → ℕ
class_of header = field_of 0 22 header

-- the slot count of an overflow word
abbrev pub overflow_slots_of : ℕ → ℕ
overflow_slots_of word = field_of 0 56 word

-- the class index of a free chunk or a forwarder, whose format plays no part
abbrev pub is_unformed : ℕ → Bool
is_unformed class = nat_eq class FREE_CLASS || nat_eq class FORWARDER_CLASS

-- the formats that no object has: 7 is that of a forwarder, 6 and 8 are reserved
abbrev pub is_refused_format : ℕ → Bool
is_refused_format format = nat_lt 5 format && nat_lt format 9

-- the number of literals of a method, from the SmallInteger in its slot 0
abbrev pub literals_of : ℕ → ℕ
literals_of word = field_of 3 15 word

-- slot 0 of a method is a SmallInteger, and the slots after it hold as many literals as it tells
abbrev pub has_literals : ℕ → ℕ → Bool
has_literals slots word = nat_lt (literals_of word) slots && nat_eq (field_of 0 3 word) SMALL_INTEGER_TAG

-- the units that fill the slots that are no pointers, before the unused ones are taken off
abbrev pub whole_units : ℕ → ℕ → ℕ → ℕ
whole_units format slots pointers =
    if nat_eq (unit_bytes_of format) 0 then 0 else (slots - pointers) * 8 / unit_bytes_of format

-- an object by its format, where `first` is its slot 0
unfoldable pub formed : ℕ → ℕ → ℕ → ℕ → ℕ → Result Head HeadError
formed lead header slots words first =
    let format = format_of header in
    let pointers = pointer_slots_of format slots (literals_of first) in
    let whole = whole_units format slots pointers in
    if is_method format && not (has_literals slots first) then Err BadCount else
    if nat_lt whole (unused_of format) then Err BadCount else
    Ok (record { header = header; lead = lead; slots = slots; words = words; pointers = pointers; units = whole - unused_of format })

-- the chunk of so many slots whose header stands behind `lead` words; it has at least one word behind the header
unfoldable pub body_of : List ℕ → ℕ → ℕ → Result Head HeadError
body_of words lead slots =
    let header = slice_index words lead in
    let class = class_of header in
    let format = format_of header in
    let need = lead + 1 + max 1 slots in
    if nat_eq class BRIDGE_CLASS then Err (BadFormat format) else
    if not (is_unformed class) && is_refused_format format then Err (BadFormat format) else
    if nat_lt (length words) need then Err Overrun else
    if is_unformed class then Ok (record { header = header; lead = lead; slots = slots; words = need; pointers = 0; units = 0 })
    else formed lead header slots need (slice_index words (lead + 1))

-- the chunk at the front of the words, or its first fault
unfoldable pub head_of : List ℕ → Result Head HeadError
head_of words =
    if nat_lt (length words) 1 then Err Overrun else
    let front = slice_index words 0 in
    if not (nat_eq (count_of front) OVERFLOW_COUNT) then body_of words 0 (count_of front) else
    if nat_lt (length words) 2 then Err Overrun else
    if not (nat_eq (count_of (slice_index words 1)) OVERFLOW_COUNT) then Err BadCount
    else body_of words 1 (overflow_slots_of front)

-- how many words stand before the header of the chunk at the front
abbrev pub lead_of : List ℕ → ℕ
lead_of words = if nat_eq (count_of (slice_index words 0)) OVERFLOW_COUNT then 1 else 0
