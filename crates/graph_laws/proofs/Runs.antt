-- A run is a run under fixed names.
use Rattle.std.proofs.Common.{List, [], ◌∷◌, refl, sym, subst}
use Rattle.spur_graph.specs.declared.answer.Answer.{Answer}
use Rattle.spur_graph.specs.Bytes.{Text}
use Rattle.spur_graph.specs.State.{State}
use Rattle.spur_graph.specs.Step.{Renamed, Run}
use Rattle.graph_laws.specs.FixedNames.{FixedRun, RunsUnderFixedNames}
use Rattle.graph_laws.proofs.Joining.{joined}
use Rattle.graph_laws.proofs.Named.{IsNamed, all_named}
use Rattle.graph_laws.proofs.Outcomes.{answered_alike}

-- the same from a state that speaks only of names that have nodes
runs : (first start last : State) (lines : List Text) (answers : List Answer) → IsNamed first → Renamed first start → Run start lines answers last → (end : State) × FixedRun first lines answers end × Renamed end last
runs first start last [] [] named k run = (first, refl, subst (λ x. Renamed first x) (sym run) k)
runs first start last [] (answer ∷ rest) named k run = absurd run
runs first start last (line ∷ lines) [] named k run = absurd run
runs first start last (line ∷ lines) (answer ∷ rest) named k run =
    let step = run.1 in
    let found = answered_alike first start step.exact line answer named k step.answers in
    let others = runs found.0 run.0 last lines rest found.3 (joined found.2 step.names) run.2 in
    (others.0, (found.0, found.1, others.1), others.2)

pub runs_under_fixed_names : RunsUnderFixedNames
runs_under_fixed_names first start last lines answers all k run = runs first start last lines answers (all_named first all) k run
