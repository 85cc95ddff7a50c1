use Rattle.std.proofs.Common.{arith}
use Rattle.heap_walk.specs.Starts.{has_start}
use Rattle.heap_walk.proofs.Bits.{is_one-added, is_one-added_other}
use Rattle.heap_walk.proofs.starts.StartMap.set.Goals as goal

pub returns-clause-added : goal.returns-clause-added
unfolding has_start
returns-clause-added c = is_one-added c.args.self.now.bits.items c.args.at c.index-word.result.now (omega arith)

pub returns-clause-others : goal.returns-clause-others
unfolding has_start
returns-clause-others c = is_one-added_other c.args.self.now.bits.items c.args.at c.index-word.result.now (omega arith) c.index-word.ensures
