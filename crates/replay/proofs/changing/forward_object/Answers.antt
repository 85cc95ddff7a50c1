use Rattle.std.proofs.Common.{◌∙◌}
use Rattle.spur_graph.proofs.Refusing.{handed_on}
use Rattle.replay.proofs.Changed.{forward_refused, forward_obeys}
use Rattle.replay.proofs.changing.forward_object.Goals as goal

pub returns-in_err-forward-clause-refusal : goal.returns-in_err-forward-clause-refusal
returns-in_err-forward-clause-refusal c = λ s.
    forward_refused c.args.heap.now c.args.mutator c.args.a.now.bytes c.args.b.now.bytes c.in_ok-from.from c.in_ok-to.to c.in_ok-from.ensures.value c.in_ok-to.ensures.value s c.args.copy_hash
    ∙ c.in_err-forward.ensures.refusal ∙ handed_on _ c.in_err-forward.field-0.0 c.from_residual-in_err-forward.ensures.1

pub returns-clause-refusal : goal.returns-clause-refusal
returns-clause-refusal c = λ s.
    forward_refused c.args.heap.now c.args.mutator c.args.a.now.bytes c.args.b.now.bytes c.in_ok-from.from c.in_ok-to.to c.in_ok-from.ensures.value c.in_ok-to.ensures.value s c.args.copy_hash
    ∙ c.in_ok-forward.ensures.refusal

pub returns-clause-done : goal.returns-clause-done
returns-clause-done c =
    forward_obeys c.args.heap.now c.args.mutator c.args.a.now.bytes c.args.b.now.bytes c.in_ok-from.from c.in_ok-to.to c.in_ok-from.ensures.value c.in_ok-to.ensures.value c.forward.new.heap c.args.copy_hash
    c.in_ok-forward.ensures.graph c.in_ok-forward.ensures.room
