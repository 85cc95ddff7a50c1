use Rattle.std.proofs.Common.{◌∙◌}
use Rattle.spur_graph.proofs.Refusing.{handed_on}
use Rattle.replay.proofs.Changed.{pin_refused, pin_obeys}
use Rattle.replay.proofs.changing.pin_object.Goals as goal

pub returns-in_err-pin-clause-refusal : goal.returns-in_err-pin-clause-refusal
returns-in_err-pin-clause-refusal c = λ s.
    pin_refused c.args.heap.now c.args.mutator c.args.o.now.bytes c.in_ok-object.object c.in_ok-object.ensures.value s
    ∙ c.in_err-pin.ensures.refusal ∙ handed_on _ c.in_err-pin.field-0.0 c.from_residual-in_err-pin.ensures.1

pub returns-clause-refusal : goal.returns-clause-refusal
returns-clause-refusal c = λ s.
    pin_refused c.args.heap.now c.args.mutator c.args.o.now.bytes c.in_ok-object.object c.in_ok-object.ensures.value s ∙ c.in_ok-pin.ensures.refusal

pub returns-clause-done : goal.returns-clause-done
returns-clause-done c = pin_obeys c.args.heap.now c.args.mutator c.args.o.now.bytes c.in_ok-object.object c.in_ok-object.ensures.value c.pin.new.heap c.in_ok-pin.ensures.pinned
