use Rattle.std.specs.Prelude.{ℕ, ◌≡◌, ◌+◌, ◌*◌, ◌/◌, ◌%◌, ◌^◌, ◌≤◌, ◌⊎◌}

-- the number that stands in the `len` bits of `word` from bit `lo` up
unfoldable pub field_of : ℕ → ℕ → ℕ → ℕ
field_of lo len word = word / 2 ^ lo % 2 ^ len

-- `word` with `value` in place of that number: the bits above the field, the value, and the bits below it
unfoldable pub with_field : ℕ → ℕ → ℕ → ℕ → ℕ
with_field lo len word value = (word / 2 ^ (lo + len) * 2 ^ len + value) * 2 ^ lo + word % 2 ^ lo

-- the `la` bits from `a` up and the `lb` bits from `b` up share none
abbrev pub IsApart : ℕ → ℕ → ℕ → ℕ → Type 0
IsApart a la b lb = (a + la ≤ b) ⊎ (b + lb ≤ a)

-- the field law: the field reads `value` in the new word, and each field apart from it reads as in the old one
pub record SetsField (lo len old value new : ℕ) : Type 0 where
  pub reads : field_of lo len new ≡ value
  pub others : (a la : ℕ) → IsApart a la lo len → field_of a la new ≡ field_of a la old
