use Rattle.planning_compactor.proofs.Turns.{Swapped}
use Rattle.planning_compactor.proofs.table.swap.Given as goal

abbrev pub invariant-entries : goal.invariant-entries
invariant-entries l = Swapped l.fn.table l.table l.fn.words l.words l.i
