use Rattle.std.proofs.Common.{◌∙◌}
use Rattle.replay.specs.Sessions.{over, value_in}
use Rattle.replay.proofs.Rows.{class_refused}
use Rattle.replay.proofs.Objects.{class_obeys}
use Rattle.replay.proofs.values.bind_class.Goals as goal

pub returns-clause-refusal : goal.returns-clause-refusal
returns-clause-refusal c = λ s.
    let v = c.args.heap.now in
    class_refused (over v s) c.args.mutator c.args.o.now.bytes (value_in v c.in_ok-word.word) c.in_ok-word.ensures.value c.args.h.now.bytes ∙ c.bind_word.ensures.refusal

pub returns-clause-done : goal.returns-clause-done
returns-clause-done c =
    class_obeys c.args.heap.now c.bind_word.new.heap c.args.mutator c.args.o.now.bytes c.in_ok-word.word c.in_ok-word.ensures.value c.args.h.now.bytes c.class_of-class.result c.bind_word.result
    c.class_of-class.ensures.class c.bind_word.ensures.bound
