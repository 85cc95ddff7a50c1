use Rattle.replay.proofs.Made.{hash_obeys}
use Rattle.replay.proofs.making.hash.Goals as goal

pub returns-clause-done : goal.returns-clause-done
returns-clause-done c =
    hash_obeys c.args.heap.now c.identity_hash.new.heap c.args.mutator c.args.o.now.bytes c.in_ok-object.object c.in_ok-hash.hash
    c.in_ok-object.ensures.value c.in_ok-hash.ensures.hash c.in_ok-hash.ensures.graph c.in_ok-hash.ensures.room
