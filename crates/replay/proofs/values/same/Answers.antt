use Rattle.replay.specs.Sessions.{value_in}
use Rattle.replay.proofs.Objects.{same_obeys}
use Rattle.replay.proofs.values.same.Goals as goal

pub returns-clause-done : goal.returns-clause-done
returns-clause-done c =
    let v = c.args.heap.now in
    same_obeys v c.args.mutator c.args.a.now.bytes (value_in v c.in_ok-first.first) c.in_ok-first.ensures.value c.args.b.now.bytes (value_in v c.in_ok-second.second) c.same.result c.in_ok-second.ensures.value c.same.ensures
