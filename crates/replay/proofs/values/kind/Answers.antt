use Rattle.replay.proofs.Objects.{kind_obeys}
use Rattle.replay.proofs.values.kind.Goals as goal

pub returns-clause-done : goal.returns-clause-done
returns-clause-done c = kind_obeys c.args.heap.now c.args.mutator c.args.o.now.bytes c.in_ok-word.word c.in_ok-word.ensures.value c.shown.result c.shown.ensures
