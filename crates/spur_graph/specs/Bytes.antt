-- Bytes: texts, and the little-endian numbers of a file.
use Rattle.std.specs.Prelude.{ℕ, List, [], ◌∷◌, take, drop}
use Rattle.std.specs.Int.{w64, Width, byte_len, from_le_bytes}

-- a text is a list of bytes
abbrev pub Text : Type 0
Text = List ℕ

-- the number of this width at a byte offset
abbrev pub number : Width → ℕ → List ℕ → ℕ
number w at bytes = from_le_bytes w (take (byte_len w) (drop at bytes))

-- the words of the bytes, 8 bytes each, as far as there are whole ones
unfoldable pub words_in : List ℕ → List ℕ
words_in (a ∷ b ∷ c ∷ d ∷ e ∷ f ∷ g ∷ h ∷ rest) = from_le_bytes w64 (a ∷ b ∷ c ∷ d ∷ e ∷ f ∷ g ∷ h ∷ []) ∷ words_in rest
words_in rest = []
