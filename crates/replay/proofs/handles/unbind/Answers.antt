use Rattle.std.proofs.Common.{◌∙◌, sym, refl}
use Rattle.std.proofs.lemmas.Bool.{false≢true}
use Rattle.replay.proofs.Graphs.{handle_dropped, handle_kept, known_before, unknown_before, none_before}
use Rattle.replay.proofs.handles.unbind.Goals as goal

pub returns-then-unbind-clause-refusal : goal.returns-then-unbind-clause-refusal
returns-then-unbind-clause-refusal c = known_before c.args.heap.now c.args.mutator c.args.name.now.bytes _ refl (c.unbind.ensures.held.0 c.if-unbind.true)

pub returns-then-unbind-clause-unbound : goal.returns-then-unbind-clause-unbound
returns-then-unbind-clause-unbound c = handle_dropped c.args.heap.now c.unbind.new.self c.args.mutator c.args.name.now.bytes c.unbind.ensures.unbound

pub returns-else-unbind-clause-refusal : goal.returns-else-unbind-clause-refusal
returns-else-unbind-clause-refusal c =
    unknown_before c.args.heap.now c.args.mutator c.args.name.now.bytes _ refl (λ some. false≢true (sym c.if-unbind.false ∙ c.unbind.ensures.held.1 some))

pub returns-else-unbind-clause-same : goal.returns-else-unbind-clause-same
returns-else-unbind-clause-same c =
    handle_kept c.args.heap.now c.unbind.new.self c.args.mutator c.args.name.now.bytes (none_before _ (λ some. false≢true (sym c.if-unbind.false ∙ c.unbind.ensures.held.1 some))) c.unbind.ensures.unbound
