use Rattle.std.proofs.Common.{◌∙◌}
use Rattle.spur_graph.proofs.Refusing.{handed_on}
use Rattle.replay.proofs.Rows.{unit_refused}
use Rattle.replay.proofs.Objects.{unit_obeys}
use Rattle.replay.proofs.slots.unit.Goals as goal

pub returns-in_err-unit-clause-refusal : goal.returns-in_err-unit-clause-refusal
returns-in_err-unit-clause-refusal c = λ s.
    unit_refused c.args.heap.now c.args.mutator c.args.o.now.bytes c.in_ok-word.word c.in_ok-word.ensures.value s c.args.i
    ∙ c.in_err-unit.ensures.refusal ∙ handed_on _ c.in_err-unit.field-0.0 c.from_residual-in_err-unit.ensures.1

pub returns-clause-refusal : goal.returns-clause-refusal
returns-clause-refusal c = λ s.
    unit_refused c.args.heap.now c.args.mutator c.args.o.now.bytes c.in_ok-word.word c.in_ok-word.ensures.value s c.args.i ∙ c.in_ok-unit.ensures.refusal

pub returns-clause-done : goal.returns-clause-done
returns-clause-done c = unit_obeys c.args.heap.now c.args.mutator c.args.o.now.bytes c.in_ok-word.word c.in_ok-word.ensures.value c.args.i c.in_ok-unit.unit c.in_ok-unit.ensures.value
