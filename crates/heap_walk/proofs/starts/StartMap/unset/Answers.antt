use Rattle.std.proofs.Common.{arith}
use Rattle.heap_walk.specs.Starts.{has_start}
use Rattle.heap_walk.proofs.Bits.{is_one-removed, is_one-removed_other}
use Rattle.heap_walk.proofs.starts.StartMap.unset.Goals as goal

pub returns-clause-removed : goal.returns-clause-removed
unfolding has_start
returns-clause-removed c = is_one-removed c.args.self.now.bits.items c.args.at c.index-word.result.now (omega arith)

pub returns-clause-others : goal.returns-clause-others
unfolding has_start
returns-clause-others c = is_one-removed_other c.args.self.now.bits.items c.args.at c.index-word.result.now (omega arith) c.index-word.ensures
