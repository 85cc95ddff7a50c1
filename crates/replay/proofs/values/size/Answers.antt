use Rattle.std.proofs.Common.{◌∙◌}
use Rattle.replay.proofs.Rows.{size_refused}
use Rattle.replay.proofs.Objects.{size_obeys}
use Rattle.replay.proofs.values.size.Goals as goal

pub returns-clause-refusal : goal.returns-clause-refusal
returns-clause-refusal c = λ s. size_refused c.args.heap.now c.args.mutator c.args.o.now.bytes c.in_ok-word.word c.in_ok-word.ensures.value s ∙ c.in_ok-pointers.ensures.refusal

pub returns-clause-done : goal.returns-clause-done
returns-clause-done c =
    let size = c.in_ok-pointers.ensures.size in
    size_obeys c.args.heap.now c.args.mutator c.args.o.now.bytes c.in_ok-word.word c.in_ok-word.ensures.value c.in_ok-pointers.pointers c.in_ok-pointers.units size.0 size.1
