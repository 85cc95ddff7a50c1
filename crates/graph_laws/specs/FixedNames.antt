-- Runs in which no step renames, and what they have to do with runs whose steps may.
use Rattle.std.specs.Prelude.{◌≡◌, ℕ, List, [], ◌∷◌, false, None}
use Rattle.std.specs.FinMap.{get}
use Rattle.std.specs.FinSet.{contains}
use Rattle.spur_graph.specs.declared.answer.Answer.{Answer}
use Rattle.spur_graph.specs.Bytes.{Text}
use Rattle.spur_graph.specs.Graph.{IsClosed}
use Rattle.spur_graph.specs.State.{State}
use Rattle.spur_graph.specs.Step.{Answers, Renamed, Run}

-- one exact answer a line, one step after another, and no step renames
abbrev pub FixedRun : State → List Text → List Answer → State → Type 0
FixedRun old [] [] new = new ≡ old
FixedRun old (line ∷ lines) (answer ∷ rest) new = (mid : State) × Answers old line answer mid × FixedRun mid lines rest new
FixedRun old [] (answer ∷ rest) new = ⊥
FixedRun old (line ∷ lines) [] new = ⊥

-- the graph is closed, and the room tells of no name but those that have a node, so that a name that has none is spoken of nowhere
pub record HasAllNames (s : State) : Type 0 where
  pub closed : IsClosed s.graph
  pub spots : (a : ℕ) → get s.graph.nodes a ≡ None → get s.room.spots a ≡ None
  pub old_names : (a : ℕ) → get s.graph.nodes a ≡ None → contains s.room.old_names a ≡ false

-- states that differ in names alone give the same answer to a line, and differ in names alone afterwards
abbrev pub AnswersAlike : Type 0
AnswersAlike =
    (s t new : State) (text : Text) (answer : Answer) →
    HasAllNames s → Renamed s t → Answers t text answer new →
    (end : State) × Answers s text answer end × Renamed end new

-- a run from a state that differs in names alone has the answers of a run under fixed names
abbrev pub RunsUnderFixedNames : Type 0
RunsUnderFixedNames =
    (first start last : State) (lines : List Text) (answers : List Answer) →
    HasAllNames first → Renamed first start → Run start lines answers last →
    (end : State) × FixedRun first lines answers end × Renamed end last
