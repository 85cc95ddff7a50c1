use Rattle.std.proofs.Common.{◌≡◌, false}
use Rattle.spur_heap.specs.Parts.{view_of}
use Rattle.spur_heap.proofs.OverSlots.{over_below}
use Rattle.spur_heap.proofs.naming.names_new.Given as goal

abbrev pub invariant-slots : goal.invariant-slots
invariant-slots l = record { none : over_below (view_of l.parts) l.start l.i ≡ false }
