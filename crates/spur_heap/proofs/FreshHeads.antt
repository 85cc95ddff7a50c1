-- The header word of a fresh object.
use Rattle.std.proofs.Common.{◌≡◌, ℕ, ◌^◌, ◌<◌, refl, ap, ◌∙◌, arith, inl, inr}
use Rattle.object_header.specs.Field.{field_of, with_field}
use Rattle.object_header.specs.Fields.{Fields, fields_of}
use Rattle.heap_cells.proofs.UnusedBits.{zero_unused, set_unused}
use Rattle.spur_heap.specs.Fresh.{IsFreshHeader}

-- each field of 0 is 0
none : fields_of 0 ≡ record { count = 0; marked = 0; hash = 0; grey = 0; pinned = 0; remembered = 0; format = 0; readonly = 0; class = 0 }
unfolding field_of
none = refl

-- count, format and class index are set in 0
pub fresh_header_is : (a b c count class format : ℕ) → count < 2 ^ 8 → class < 2 ^ 22 → format < 2 ^ 5
    → a ≡ with_field 56 8 0 count → b ≡ with_field 24 5 a format → c ≡ with_field 0 22 b class
    → fields_of a ≡ record (fields_of 0) { count = count } → fields_of b ≡ record (fields_of a) { format = format } → fields_of c ≡ record (fields_of b) { class = class }
    → IsFreshHeader c count class format
fresh_header_is a b c count class format count_fits class_fits format_fits a_is b_is c_is a_fields b_fields c_fields =
    let one = set_unused 56 8 0 count a (inl (omega arith)) (inl (omega arith)) count_fits a_is zero_unused in
    let two = set_unused 24 5 a format b (inl (omega arith)) (inr (omega arith)) format_fits b_is one in
    record {
      fields =
          c_fields ∙ ap (λ (f : Fields). record f { class = class }) (b_fields ∙ ap (λ (f : Fields). record f { format = format }) (a_fields ∙ ap (λ (f : Fields). record f { count = count }) none));
      unused = set_unused 0 22 b class c (inr (omega arith)) (inr (omega arith)) class_fits c_is two;
    }
