use Rattle.planning_compactor.specs.Readdressed.{Rewritten}
use Rattle.planning_compactor.proofs.slots.readdress_object.Given as goal

abbrev pub invariant-slots : goal.invariant-slots
invariant-slots l = Rewritten l.fn.table l.table l.fn.words l.words l.low l.high l.start l.i
