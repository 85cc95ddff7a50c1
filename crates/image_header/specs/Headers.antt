-- What the header of an image says, the fault of one that can't be read, and the bytes that are written.
use Rattle.std.specs.Prelude.{◌≡◌, ◌<◌, ℕ, ◌+◌, ◌%◌, ◌^◌, List, ◌++◌, length, take, drop, slice_index, Option, Some, None, Bool, false, if◌then◌else◌, nat_lt, nat_eq, ◌||◌, not}
use Rattle.std.specs.Int.{w32, w64, to_le_bytes}
use Rattle.spur_graph.specs.Bytes.{number}
use Rattle.spur_graph.specs.ImageFile.{format, header_size, heap_bytes, base, special_word, last_hash, first_segment, header_bytes, spur_format}
use Rattle.spur_graph.specs.ImageCauses.{greatest_base}
use Rattle.image_header.specs.declared.header.ImageHeader.{ImageHeader}
use Rattle.image_header.specs.declared.header.HeaderError.{HeaderError}
use Rattle.image_header.specs.declared.header.HeaderError.TheVariants.{Format, HeaderSize, Base}

-- no heap begins at this address
abbrev pub is_bad_base : ℕ → Bool
is_bad_base base = not (nat_eq (base % 8) 0) || nat_lt greatest_base base

-- the first thing in the header of a file for which it is refused
abbrev pub fault_of : List ℕ → Option HeaderError
fault_of file =
    if not (nat_eq (format file) spur_format) then Some (Format (format file)) else
    if not (nat_eq (header_size file) header_bytes) then Some (HeaderSize (header_size file)) else
    if is_bad_base (base file) then Some (Base (base file)) else None

-- the header of a file
pub record IsHeaderOf (file : List ℕ) (h : ImageHeader) : Type 0 where
  pub format_is : h.format ≡ format file
  pub heap_is : h.heap_bytes ≡ heap_bytes file
  pub base_is : h.base ≡ base file
  pub special_is : h.special ≡ special_word file
  pub hash_is : h.last_hash ≡ last_hash file
  pub segment_is : h.first_segment ≡ first_segment file
  pub carried_is : h.carried ≡ take header_bytes file

-- the bytes with a field in place of those that stood there
unfoldable pub put : ℕ → List ℕ → List ℕ → List ℕ
put at field bytes = take at bytes ++ (field ++ drop (at + length field) bytes)

-- the carried bytes with the fields of the header in their places, and 0 in bytes 80 to 87
unfoldable pub written : ImageHeader → List ℕ
written h =
    let front = put 8 (to_le_bytes w64 h.heap_bytes) (put 0 (to_le_bytes w32 h.format) h.carried) in
    let placed = put 24 (to_le_bytes w64 h.special) (put 16 (to_le_bytes w64 h.base) front) in
    put 80 (to_le_bytes w64 0) (put 72 (to_le_bytes w64 h.first_segment) (put 32 (to_le_bytes w64 h.last_hash) placed))

-- a header whose bytes can be read again
pub record IsReadable (h : ImageHeader) : Type 0 where
  pub format_is : h.format ≡ spur_format
  pub size_is : header_size h.carried ≡ header_bytes
  pub base_is : is_bad_base h.base ≡ false

-- the fields have their widths, as those of every header that a program has do
pub record HasWidths (h : ImageHeader) : Type 0 where
  pub format_fits : h.format < 2 ^ 32
  pub heap_fits : h.heap_bytes < 2 ^ 64
  pub base_fits : h.base < 2 ^ 64
  pub special_fits : h.special < 2 ^ 64
  pub hash_fits : h.last_hash < 2 ^ 64
  pub segment_fits : h.first_segment < 2 ^ 64
  pub whole : length h.carried ≡ header_bytes

-- each byte is one
abbrev pub AreBytes : List ℕ → Type 0
AreBytes bytes = (i : ℕ) → slice_index bytes i < 256

-- the header of what is written has the fields that were written, and no fault
abbrev pub ReadsBack : Type 0
ReadsBack = (h : ImageHeader) → HasWidths h → IsReadable h → (fault_of (written h) ≡ None) × IsHeaderOf (written h) (record h { carried = written h })

-- what is written of the header of some bytes is these bytes, with 0 in bytes 80 to 87
abbrev pub WritesBack : Type 0
WritesBack = (bytes : List ℕ) (h : ImageHeader) → length bytes ≡ header_bytes → AreBytes bytes → IsHeaderOf bytes h → written h ≡ put 80 (to_le_bytes w64 0) bytes

-- bytes 4 to 7, 40 to 71 and 88 to 127 of what is written are those that were carried, and bytes 80 to 87 are 0
abbrev pub Carries : Type 0
Carries = (h : ImageHeader) → length h.carried ≡ header_bytes →
    (header_size (written h) ≡ header_size h.carried) × (take 32 (drop 40 (written h)) ≡ take 32 (drop 40 h.carried))
    × (number w64 80 (written h) ≡ 0) × (drop 88 (written h) ≡ drop 88 h.carried)

-- what the first bytes of a file tell, the file tells
abbrev pub TellsOfFile : Type 0
TellsOfFile = (file : List ℕ) → (fault_of (take header_bytes file) ≡ fault_of file) × ((h : ImageHeader) → IsHeaderOf (take header_bytes file) h → IsHeaderOf file h)
