use Rattle.marker.proofs.Keeping.{ordinary_below}
use Rattle.marker.proofs.drain.set_aside.Goals as goal

pub push_mark-requires-clause-small : goal.push_mark-requires-clause-small
push_mark-requires-clause-small c = ordinary_below c.args.heap.now c.whole.ensures.whole c.args.start c.requires.there
