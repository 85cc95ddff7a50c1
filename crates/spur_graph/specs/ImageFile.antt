-- The bytes of an image file: a header of 128 bytes, and the heap behind it.
use Rattle.std.specs.Prelude.{ℕ, List}
use Rattle.std.specs.Int.{w32, w64}
use Rattle.spur_graph.specs.Bytes.{number}
use Rattle.spur_graph.specs.declared.layout.TheConstants.{HEADER_BYTES, SPUR_FORMAT}

-- the length of the header
abbrev pub header_bytes : ℕ
header_bytes = HEADER_BYTES

-- the format of a 64-bit Spur image
abbrev pub spur_format : ℕ
spur_format = SPUR_FORMAT

-- bytes 0 to 3
abbrev pub format : List ℕ → ℕ
format bytes = number w32 0 bytes

-- bytes 4 to 7
abbrev pub header_size : List ℕ → ℕ
header_size bytes = number w32 4 bytes

-- bytes 8 to 15, the length of the heap
abbrev pub heap_bytes : List ℕ → ℕ
heap_bytes bytes = number w64 8 bytes

-- bytes 16 to 23, the address of the heap's first word
abbrev pub base : List ℕ → ℕ
base bytes = number w64 16 bytes

-- bytes 24 to 31, the reference to the special objects array
abbrev pub special_word : List ℕ → ℕ
special_word bytes = number w64 24 bytes

-- bytes 32 to 39, the state from which hashes are drawn
abbrev pub last_hash : List ℕ → ℕ
last_hash bytes = number w64 32 bytes

-- bytes 72 to 79, the length of the first segment
abbrev pub first_segment : List ℕ → ℕ
first_segment bytes = number w64 72 bytes
