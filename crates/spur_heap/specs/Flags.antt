-- The two flags of an object: pinned and readonly.
use Rattle.std.specs.Prelude.{ℕ, Bool, if◌then◌else◌}
use Rattle.object_header.specs.Field.{with_field}

-- a flag as a bit
abbrev pub flag_bit : Bool → ℕ
flag_bit on = if on then 1 else 0

-- the header word with the pinned flag, with the readonly flag
abbrev pub with_pinned : ℕ → Bool → ℕ
with_pinned word on = with_field 30 1 word (flag_bit on)

abbrev pub with_readonly : ℕ → Bool → ℕ
with_readonly word on = with_field 23 1 word (flag_bit on)
