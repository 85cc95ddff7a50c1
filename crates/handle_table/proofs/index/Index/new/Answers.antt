use Rattle.std.proofs.Common.{refl, arith}
use Rattle.handle_table.proofs.Held.{index_free}
use Rattle.handle_table.proofs.index.Index.new.Goals as goal

pub invariant_of-result : goal.invariant_of-result
invariant_of-result c = (index_free c.in_ok-slots.slots.items c.in_ok-held.held.items 196608 (c.in_ok-slots.ensures.items_if_clones_equal (λ y h. h)) refl c.in_ok-held.ensures.items, omega (arith, c.in_ok-held.ensures.capacity))
