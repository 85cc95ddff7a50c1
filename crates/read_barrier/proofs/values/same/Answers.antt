use Rattle.std.proofs.Common.{sym}
use Rattle.read_barrier.proofs.Followed.{same_words}
use Rattle.read_barrier.proofs.values.same.Goals as goal

pub returns : goal.returns
returns c =
    sym (same_words c.args.heap.now c.args.a c.args.b c.follow.result c.follow-2.result c.follow.type_inv c.follow-2.type_inv c.requires.good.0 c.requires.good.1 c.follow.ensures.followed c.follow-2.ensures.followed)
