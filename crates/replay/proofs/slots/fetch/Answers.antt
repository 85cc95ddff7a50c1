use Rattle.std.proofs.Common.{◌∙◌}
use Rattle.spur_graph.proofs.Refusing.{handed_on}
use Rattle.replay.proofs.Rows.{fetch_refused}
use Rattle.replay.proofs.Objects.{fetch_obeys}
use Rattle.replay.proofs.slots.fetch.Goals as goal

pub returns-in_err-slot-clause-refusal : goal.returns-in_err-slot-clause-refusal
returns-in_err-slot-clause-refusal c = λ s.
    fetch_refused c.args.heap.now c.args.mutator c.args.o.now.bytes c.in_ok-word.word c.in_ok-word.ensures.value s c.args.h.now.bytes c.args.i c.in_ok-room_for.ensures
    ∙ c.in_err-slot.ensures.refusal ∙ handed_on _ c.in_err-slot.field-0.0 c.from_residual-in_err-slot.ensures.1

pub returns-clause-refusal : goal.returns-clause-refusal
returns-clause-refusal c = λ s.
    fetch_refused c.args.heap.now c.args.mutator c.args.o.now.bytes c.in_ok-word.word c.in_ok-word.ensures.value s c.args.h.now.bytes c.args.i c.in_ok-room_for.ensures
    ∙ c.in_ok-slot.ensures.refusal

pub returns-clause-done : goal.returns-clause-done
returns-clause-done c =
    fetch_obeys c.args.heap.now c.bind.new.heap c.args.mutator c.args.o.now.bytes c.in_ok-word.word c.in_ok-word.ensures.value c.args.h.now.bytes c.args.i c.in_ok-slot.slot
    c.in_ok-slot.ensures.value c.bind.ensures.bound
