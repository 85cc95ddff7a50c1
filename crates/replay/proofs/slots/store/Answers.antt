use Rattle.std.proofs.Common.{◌∙◌}
use Rattle.spur_graph.proofs.Refusing.{handed_on}
use Rattle.replay.proofs.Rows.{store_refused}
use Rattle.replay.proofs.Objects.{store_obeys}
use Rattle.replay.proofs.slots.store.Goals as goal

pub returns-in_err-store-clause-refusal : goal.returns-in_err-store-clause-refusal
returns-in_err-store-clause-refusal c = λ s.
    store_refused c.args.heap.now c.args.mutator c.args.o.now.bytes c.in_ok-word.word c.in_ok-word.ensures.value s c.args.i c.args.v.now.bytes c.in_ok-value.value c.in_ok-value.ensures.value
    ∙ c.in_err-store.ensures.refusal ∙ handed_on _ c.in_err-store.field-0.0 c.from_residual-in_err-store.ensures.1

pub returns-clause-refusal : goal.returns-clause-refusal
returns-clause-refusal c = λ s.
    store_refused c.args.heap.now c.args.mutator c.args.o.now.bytes c.in_ok-word.word c.in_ok-word.ensures.value s c.args.i c.args.v.now.bytes c.in_ok-value.value c.in_ok-value.ensures.value
    ∙ c.in_ok-store.ensures.refusal

pub returns-clause-done : goal.returns-clause-done
returns-clause-done c =
    store_obeys c.args.heap.now c.store.new.heap c.args.mutator c.args.o.now.bytes c.in_ok-word.word c.in_ok-word.ensures.value c.args.i c.args.v.now.bytes c.in_ok-value.value c.in_ok-value.ensures.value
    c.in_ok-store.ensures.graph c.in_ok-store.ensures.room
