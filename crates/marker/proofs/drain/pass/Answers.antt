use Rattle.marker.proofs.Working.{visits_counted}
use Rattle.marker.proofs.drain.pass.Goals as goal

pub returns : goal.returns
returns c = record { visits = visits_counted c.args.heap.now c.scan.new.heap c.args.start c.strong_count-count.result c.strong_count-count.ensures c.scan.ensures.visits }
