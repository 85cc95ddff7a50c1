use Rattle.std.proofs.Common.{ap}
use Rattle.spur_graph.specs.Heaps.{View}
use Rattle.replay.proofs.Collected.{collect_obeys}
use Rattle.replay.proofs.collecting.collect_dead.Goals as goal

pub returns-clause-done : goal.returns-clause-done
returns-clause-done c = collect_obeys c.args.heap.now c.collect-counts.new.heap c.args.mutator c.collect-counts.result.nilled c.collect-counts.result.fired c.collect-counts.ensures.collects

pub returns-clause-keeps : goal.returns-clause-keeps
returns-clause-keeps c =
    let rest = c.collect-counts.ensures.collects.rest in
    record { carried = ap (λ (v : View). v.carried) rest; limits = ap (λ (v : View). v.limits) rest; phase = ap (λ (v : View). v.phase) rest }
