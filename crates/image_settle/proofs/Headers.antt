-- Headers by their fields.
use Rattle.std.proofs.Common.{◌≡◌, ℕ, refl, ap, ◌∙◌}
use Rattle.object_header.specs.Field.{field_of}
use Rattle.object_header.specs.Fields.{Fields, fields_of}
use Rattle.image_settle.specs.Settles.{unmarked}

-- a header of zeros into which six fields are set
abbrev six : ℕ → ℕ → ℕ → ℕ → ℕ → ℕ → Fields
six count hash pinned format readonly class = record { count = count; marked = 0; hash = hash; grey = 0; pinned = pinned; remembered = 0; format = format; readonly = readonly; class = class }

zero_fields : fields_of 0 ≡ six 0 0 0 0 0 0
unfolding field_of
zero_fields = refl

pub built : (f : Fields) (n0 n1 n2 n3 n4 n5 w0 w1 w2 w3 w4 w5 : ℕ)
    → n0 ≡ f.count → fields_of w0 ≡ record (fields_of 0) { count = n0 }
    → n1 ≡ f.hash → fields_of w1 ≡ record (fields_of w0) { hash = n1 }
    → n2 ≡ f.pinned → fields_of w2 ≡ record (fields_of w1) { pinned = n2 }
    → n3 ≡ f.format → fields_of w3 ≡ record (fields_of w2) { format = n3 }
    → n4 ≡ f.readonly → fields_of w4 ≡ record (fields_of w3) { readonly = n4 }
    → n5 ≡ f.class → fields_of w5 ≡ record (fields_of w4) { class = n5 }
    → fields_of w5 ≡ unmarked f
built f n0 n1 n2 n3 n4 n5 w0 w1 w2 w3 w4 w5 e0 f0 e1 f1 e2 f2 e3 f3 e4 f4 e5 f5 =
    let a0 : fields_of w0 ≡ six n0 0 0 0 0 0 = f0 ∙ ap (λ (x : Fields). record x { count = n0 }) zero_fields in
    let a1 : fields_of w1 ≡ six n0 n1 0 0 0 0 = f1 ∙ ap (λ (x : Fields). record x { hash = n1 }) a0 in
    let a2 : fields_of w2 ≡ six n0 n1 n2 0 0 0 = f2 ∙ ap (λ (x : Fields). record x { pinned = n2 }) a1 in
    let a3 : fields_of w3 ≡ six n0 n1 n2 n3 0 0 = f3 ∙ ap (λ (x : Fields). record x { format = n3 }) a2 in
    let a4 : fields_of w4 ≡ six n0 n1 n2 n3 n4 0 = f4 ∙ ap (λ (x : Fields). record x { readonly = n4 }) a3 in
    let a5 : fields_of w5 ≡ six n0 n1 n2 n3 n4 n5 = f5 ∙ ap (λ (x : Fields). record x { class = n5 }) a4 in
    a5 ∙ (λ i. six (e0 i) (e1 i) (e2 i) (e3 i) (e4 i) (e5 i))
