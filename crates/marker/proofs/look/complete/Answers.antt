use Rattle.marker.proofs.Looking.{all_found}
use Rattle.marker.proofs.Working.{works_then}
use Rattle.marker.proofs.look.complete.Goals as goal

pub returns-then-not-look-clause-works : goal.returns-then-not-look-clause-works
returns-then-not-look-clause-works c = works_then c.args.except c.args.heap.now c.rounds.heap c.look.new.heap c.rounds.invariant.works c.look.ensures.works

pub returns-then-not-look-clause-all : goal.returns-then-not-look-clause-all
returns-then-not-look-clause-all c m a r =
    all_found c.args.except c.args.heap.now c.look.new.heap (works_then c.args.except c.args.heap.now c.rounds.heap c.look.new.heap c.rounds.invariant.works c.look.ensures.works)
    (c.look.ensures.wait c.if-not-look.true) m a r

pub rounds-preserved : goal.rounds-preserved
rounds-preserved c = record { works = works_then c.args.except c.args.heap.now c.rounds.heap c.look.new.heap c.rounds.invariant.works c.look.ensures.works }
