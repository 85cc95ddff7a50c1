-- Head words by their fields.
use Rattle.std.proofs.Common.{◌≡◌, ℕ, ◌<◌, ◌+◌, ◌*◌, ◌^◌, refl, ap, ◌∙◌, inl, inr, arith}
use Rattle.object_header.specs.Field.{field_of, with_field, IsApart}
use Rattle.object_header.specs.Fields.{Fields, fields_of, free_fields}
use Rattle.object_header.proofs.Fields.{SetsField-with_field}

-- a word of zeros into which a slot count and a format are set
abbrev two : ℕ → ℕ → Fields
two count format = record { count = count; marked = 0; hash = 0; grey = 0; pinned = 0; remembered = 0; format = format; readonly = 0; class = 0 }

zero_fields : fields_of 0 ≡ two 0 0
unfolding field_of
zero_fields = refl

pub built_free : (n w0 w1 w2 : ℕ) → fields_of w0 ≡ record (fields_of 0) { count = n } → fields_of w1 ≡ record (fields_of w0) { format = 9 } → fields_of w2 ≡ record (fields_of w1) { class = 0 } → fields_of w2 ≡ free_fields n
built_free n w0 w1 w2 f0 f1 f2 =
    let a0 : fields_of w0 ≡ two n 0 = f0 ∙ ap (λ (x : Fields). record x { count = n }) zero_fields in
    let a1 : fields_of w1 ≡ two n 9 = f1 ∙ ap (λ (x : Fields). record x { format = 9 }) a0 in
    f2 ∙ ap (λ (x : Fields). record x { class = 0 }) a1

-- a bit apart from a field stays when the field is set
kept : (at lo len w v new : ℕ) → IsApart at 1 lo len → v < 2 ^ len → new ≡ with_field lo len w v → field_of at 1 w ≡ 0 → field_of at 1 new ≡ 0
kept at lo len w v new apart fits is zero = ap (field_of at 1) is ∙ (SetsField-with_field w lo len v fits).others at 1 apart ∙ zero

zero_bit : (at : ℕ) → field_of at 1 0 ≡ 0
unfolding field_of
zero_bit at = omega arith

-- a bit between the class and the format, or between the format and the slot count, is 0 in the header of a free chunk
pub free_bit : (at n w0 w1 w2 : ℕ) → IsApart at 1 56 8 → IsApart at 1 24 5 → IsApart at 1 0 22 → n < 2 ^ 8
    → w0 ≡ with_field 56 8 0 n → w1 ≡ with_field 24 5 w0 9 → w2 ≡ with_field 0 22 w1 0 → field_of at 1 w2 ≡ 0
free_bit at n w0 w1 w2 a b c fits is0 is1 is2 =
    kept at 0 22 w1 0 w2 c (omega arith) is2 (kept at 24 5 w0 9 w1 b (omega arith) is1 (kept at 56 8 0 n w0 a fits is0 (zero_bit at)))

pub overflow_count : (slots : ℕ) → slots < 2 ^ 56 → field_of 56 8 (255 * 2 ^ 56 + slots) ≡ 255
unfolding field_of
overflow_count slots few = omega arith

pub overflow_slots : (slots : ℕ) → slots < 2 ^ 56 → field_of 0 56 (255 * 2 ^ 56 + slots) ≡ slots
unfolding field_of
overflow_slots slots few = omega arith
