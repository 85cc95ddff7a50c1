use Rattle.planning_compactor.proofs.Turns.{turn}
use Rattle.planning_compactor.proofs.table.swap.Goals as goal

pub entries-preserved : goal.entries-preserved
entries-preserved c = turn c.args.table.now c.entries.table c.args.words.now c.entries.words c.entries.i c.requires.table c.entries-test.true c.entries.invariant
