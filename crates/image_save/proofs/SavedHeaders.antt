-- The fields of a header that is saved are those of the object.
use Rattle.std.proofs.Common.{◌≡◌, ℕ, eqb, ◌+◌, ◌*◌, ◌^◌, ◌<◌, ap, arith}
use Rattle.object_header.specs.Field.{field_of}
use Rattle.object_header.specs.Fields.{Fields, fields_of}
use Rattle.object_header.specs.Head.{class_of}
use Rattle.object_header.specs.Chunks.{leads}
use Rattle.object_header.proofs.Fields.{field_of-lt}
use Rattle.image_save.specs.Saved.{saved_header}

-- the fields of a sum of fields
record Sums (c h p f r k w : ℕ) : Type 0 where
  count : (fields_of w).count ≡ c
  hash : (fields_of w).hash ≡ h
  pinned : (fields_of w).pinned ≡ p
  format : (fields_of w).format ≡ f
  readonly : (fields_of w).readonly ≡ r
  class : (fields_of w).class ≡ k

sums : (c h p f r k : ℕ) → c < 2 ^ 8 → h < 2 ^ 22 → p < 2 ^ 1 → f < 2 ^ 5 → r < 2 ^ 1 → k < 2 ^ 22
    → Sums c h p f r k (c * 2 ^ 56 + h * 2 ^ 32 + p * 2 ^ 30 + f * 2 ^ 24 + r * 2 ^ 23 + k)
unfolding field_of
sums c h p f r k lc lh lp lf lr lk = record { count = omega arith; hash = omega arith; pinned = omega arith; format = omega arith; readonly = omega arith; class = omega arith }

header_sums : (w : ℕ) → Sums (fields_of w).count (fields_of w).hash (fields_of w).pinned (fields_of w).format (fields_of w).readonly (fields_of w).class (saved_header w)
unfolding saved_header
header_sums w = sums (fields_of w).count (fields_of w).hash (fields_of w).pinned (fields_of w).format (fields_of w).readonly (fields_of w).class
    (field_of-lt w 56 8) (field_of-lt w 32 22) (field_of-lt w 30 1) (field_of-lt w 24 5) (field_of-lt w 23 1) (field_of-lt w 0 22)

-- the fields that stay
pub record KeepsFields (f g : Fields) : Type 0 where
  pub count : f.count ≡ g.count
  pub hash : f.hash ≡ g.hash
  pub pinned : f.pinned ≡ g.pinned
  pub format : f.format ≡ g.format
  pub readonly : f.readonly ≡ g.readonly

pub header_keeps : (w : ℕ) → KeepsFields (fields_of (saved_header w)) (fields_of w)
header_keeps w = let s = header_sums w in record { count = s.count; hash = s.hash; pinned = s.pinned; format = s.format; readonly = s.readonly }

pub header_class : (w : ℕ) → class_of (saved_header w) ≡ class_of w
header_class w = (header_sums w).class

-- so it tells of its chunk what it told
pub header_leads : (w : ℕ) → leads (saved_header w) ≡ leads w
header_leads w = ap (λ n. eqb n 255) (header_keeps w).count
