-- What writing the base image makes of a file, and how its bytes are cut into pieces.
use Rattle.std.specs.Prelude.{◌≡◌, ◌⊎◌, ℕ, List, ◌++◌, map, take}
use Rattle.std.specs.List.{flat_map, range_with_len}
use Rattle.std.specs.Int.{w64, to_le_bytes}
use Rattle.spur_graph.specs.BaseImage.{base_word, base_header, base_image}

-- the file is the base image
abbrev pub IsWritten : List ℕ → List ℕ → Type 0
IsWritten old new = new ≡ base_image

-- the file is as before or a prefix of the base image, so it may be empty
abbrev pub IsCutShort : List ℕ → List ℕ → Type 0
IsCutShort old new = (new ≡ old) ⊎ ((k : ℕ) × (new ≡ take k base_image))

-- the bytes of `n` words of the heap, from the word `from` on
unfoldable pub word_bytes : ℕ → ℕ → List ℕ
word_bytes from n = flat_map (to_le_bytes w64) (map base_word (range_with_len from n))

-- the file up to the heap's word `n`
unfoldable pub image_front : ℕ → List ℕ
image_front n = base_header ++ word_bytes 0 n
