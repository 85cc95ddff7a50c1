use Rattle.planning_compactor.specs.Slid.{Slid}
use Rattle.planning_compactor.proofs.slides.slide_all.Given as goal

abbrev pub invariant-objects : goal.invariant-objects
invariant-objects l = Slid l.table l.fn.words l.words l.i
