use Rattle.std.proofs.Common.{◌≡◌, ◌∙◌, sym, ap, subst}
use Rattle.std.specs.Prelude.{ℕ, Some, IfOk, Result}
use Rattle.std.specs.Result.{result_err}
use Rattle.spur_graph.specs.declared.answer.Refusal.{Refusal}
use Rattle.spur_graph.specs.Graph.{held}
use Rattle.replay.specs.Sessions.{graph_of, value_in}
use Rattle.replay.proofs.Graphs.{looked_up, looked_up_value}
use Rattle.replay.proofs.handles.held.Goals as goal

pub returns-clause-refusal : goal.returns-clause-refusal
returns-clause-refusal c = looked_up c.args.heap.now c.args.mutator c.args.name.now.bytes c.handle.result (sym c.handle.ensures.word) ∙ ap result_err (sym c.ok_or.ensures.value)

pub returns-clause-value : goal.returns-clause-value
returns-clause-value c =
    let s = c.args.heap.now in
    let P : Result ℕ Refusal → Type 0 = λ result. IfOk result (λ word. held (graph_of s) c.args.mutator c.args.name.now.bytes ≡ Some (value_in s word)) in
    subst P (sym c.ok_or.ensures.value) (looked_up_value s c.args.mutator c.args.name.now.bytes c.handle.result (sym c.handle.ensures.word))
