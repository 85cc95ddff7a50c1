-- What a save does to the files, and what one leaves that meets a fault.
use Rattle.std.specs.Prelude.{◌≡◌, ◌≢◌, ◌⊎◌, ℕ, take}
use Rattle.spur_graph.specs.declared.answer.Answer.{Answer}
use Rattle.spur_graph.specs.declared.answer.Answer.TheVariants as answers
use Rattle.spur_graph.specs.Bytes.{Text}
use Rattle.spur_graph.specs.Graph.{Graph}
use Rattle.spur_graph.specs.Denotes.{Denotes, bare}
use Rattle.spur_graph.specs.State.{State, Files}

-- the file of this name denotes the graph, and no other file is changed, nor anything else
pub record Saves (old : State) (name : Text) (answer : Answer) (new : State) : Type 0 where
  pub done : answer ≡ answers.Done
  pub file : Denotes (new.files name) (bare old.graph)
  pub others : (n : Text) → n ≢ name → new.files n ≡ old.files n
  pub rest : new ≡ record old { files = new.files }

-- the bytes are a front of a text that denotes the graph, perhaps none
pub record IsFrontOfSaved (g : Graph) (bytes : Text) : Type 0 where
  pub text : Text
  pub denotes : Denotes text (bare g)
  pub size : ℕ
  pub front : bytes ≡ take size text

-- a save that meets a fault leaves the file of its name as it was, or a front of what it was to have, and every other file as it was
pub record CutsSave (s : State) (name : Text) (files : Files) : Type 0 where
  pub file : (files name ≡ s.files name) ⊎ IsFrontOfSaved s.graph (files name)
  pub others : (n : Text) → n ≢ name → files n ≡ s.files n
