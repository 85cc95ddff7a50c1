use Rattle.spur_heap.proofs.Starting.{start_below}
use Rattle.marker.proofs.rounds.gather.Goals as goal

pub push_mark-requires-clause-small : goal.push_mark-requires-clause-small
push_mark-requires-clause-small c = start_below c.args.heap.now c.whole.ensures.whole c.args.start c.requires.there
