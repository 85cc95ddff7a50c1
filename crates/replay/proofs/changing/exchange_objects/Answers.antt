use Rattle.std.proofs.Common.{◌∙◌}
use Rattle.spur_graph.proofs.Refusing.{handed_on}
use Rattle.replay.proofs.Changed.{exchange_refused, exchange_obeys}
use Rattle.replay.proofs.changing.exchange_objects.Goals as goal

pub returns-in_err-exchange-clause-refusal : goal.returns-in_err-exchange-clause-refusal
returns-in_err-exchange-clause-refusal c = λ s.
    exchange_refused c.args.heap.now c.args.mutator c.args.a.now.bytes c.args.b.now.bytes c.in_ok-first.first c.in_ok-second.second c.in_ok-first.ensures.value c.in_ok-second.ensures.value s
    ∙ c.in_err-exchange.ensures.refusal ∙ handed_on _ c.in_err-exchange.field-0.0 c.from_residual-in_err-exchange.ensures.1

pub returns-clause-refusal : goal.returns-clause-refusal
returns-clause-refusal c = λ s.
    exchange_refused c.args.heap.now c.args.mutator c.args.a.now.bytes c.args.b.now.bytes c.in_ok-first.first c.in_ok-second.second c.in_ok-first.ensures.value c.in_ok-second.ensures.value s
    ∙ c.in_ok-exchange.ensures.refusal

pub returns-clause-done : goal.returns-clause-done
returns-clause-done c =
    exchange_obeys c.args.heap.now c.args.mutator c.args.a.now.bytes c.args.b.now.bytes c.in_ok-first.first c.in_ok-second.second c.in_ok-first.ensures.value c.in_ok-second.ensures.value c.exchange.new.heap
    c.in_ok-exchange.ensures.exchanged
