use Rattle.replay.proofs.Changed.{unpin_obeys}
use Rattle.replay.proofs.changing.unpin_object.Goals as goal

pub returns-clause-done : goal.returns-clause-done
returns-clause-done c =
    unpin_obeys c.args.heap.now c.args.mutator c.args.o.now.bytes c.in_ok-object.object c.in_ok-object.ensures.value c.unpin.new.heap c.in_ok-unpin.ensures.graph c.in_ok-unpin.ensures.room
