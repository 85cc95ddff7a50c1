-- The two bits of a header that are in none of its fields.
use Rattle.std.proofs.Common.{◌≡◌, ℕ, ◌<◌, ◌^◌, refl, sym, ◌∙◌, subst}
use Rattle.object_header.specs.Field.{field_of, with_field, IsApart}
use Rattle.object_header.proofs.Fields.{SetsField-with_field}
use Rattle.spur_graph.specs.Heaps.{HasNoUnusedBits}

pub zero_unused : HasNoUnusedBits 0
unfolding field_of
zero_unused = record { low = refl; high = refl }

-- a field that is set leaves them as they are
pub set_unused : (lo len w v new : ℕ) → IsApart 22 1 lo len → IsApart 54 1 lo len → v < 2 ^ len → new ≡ with_field lo len w v → HasNoUnusedBits w → HasNoUnusedBits new
set_unused lo len w v new low high fits is k =
    let s = SetsField-with_field w lo len v fits in
    subst HasNoUnusedBits (sym is) (record { low = s.others 22 1 low ∙ k.low; high = s.others 54 1 high ∙ k.high })
