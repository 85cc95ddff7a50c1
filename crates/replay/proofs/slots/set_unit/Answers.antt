use Rattle.std.proofs.Common.{◌∙◌}
use Rattle.spur_graph.proofs.Refusing.{handed_on}
use Rattle.replay.proofs.Rows.{set_unit_refused}
use Rattle.replay.proofs.Objects.{set_unit_obeys}
use Rattle.replay.proofs.slots.set_unit.Goals as goal

pub returns-in_err-store_unit-clause-refusal : goal.returns-in_err-store_unit-clause-refusal
returns-in_err-store_unit-clause-refusal c = λ s.
    set_unit_refused c.args.heap.now c.args.mutator c.args.o.now.bytes c.in_ok-word.word c.in_ok-word.ensures.value s c.args.i c.args.n
    ∙ c.in_err-store_unit.ensures.refusal ∙ handed_on _ c.in_err-store_unit.field-0.0 c.from_residual-in_err-store_unit.ensures.1

pub returns-clause-refusal : goal.returns-clause-refusal
returns-clause-refusal c = λ s.
    set_unit_refused c.args.heap.now c.args.mutator c.args.o.now.bytes c.in_ok-word.word c.in_ok-word.ensures.value s c.args.i c.args.n ∙ c.in_ok-store_unit.ensures.refusal

pub returns-clause-done : goal.returns-clause-done
returns-clause-done c =
    set_unit_obeys c.args.heap.now c.store_unit.new.heap c.args.mutator c.args.o.now.bytes c.in_ok-word.word c.in_ok-word.ensures.value c.args.i c.args.n c.in_ok-store_unit.ensures.graph c.in_ok-store_unit.ensures.room
