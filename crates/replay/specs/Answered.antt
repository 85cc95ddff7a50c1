-- The lines of a script that were answered so far.
use Rattle.std.specs.Prelude.{◌≡◌, ℕ, ◌≤◌, ◌<◌, ◌+◌, List, ◌∷◌, ◌++◌, length, take, Option, Some, Result, Ok, Err}
use Rattle.spur_io.specs.declared.sink.SinkFault.{SinkFault}
use Rattle.spur_io.specs.Store.{Puts}
use Rattle.spur_graph.specs.declared.answer.Answer.{Answer}
use Rattle.spur_graph.specs.Bytes.{Text}
use Rattle.spur_graph.specs.State.{State, Files}
use Rattle.spur_graph.specs.Step.{Step, Run, longest_line}
use Rattle.spur_graph.specs.Lines.{lines_of, ended_lines_of, open_line_of}
use Rattle.spur_graph.specs.Text.{answer_line}
use Rattle.spur_io.specs.declared.files.FileFault.TheVariants as file
use Rattle.replay.specs.Sessions.{SessionView, IsStateOf, IsAt, StandsFor, StopsAtSave}
use Rattle.replay.specs.Runs.{answers_text, PutsFront, most_script_bytes}
use Rattle.replay.specs.declared.runs.Stop.{Stop}
use Rattle.replay.specs.declared.runs.Stop.TheVariants as stop

-- the bytes of a line that are kept: of one that is too long, just so many that they are too long too
abbrev pub kept_of : Text → List ℕ
kept_of line = take (longest_line + 1) line

-- a line was answered, and its answer was put or a put of it was refused
pub record AnswersLine (old new : State) (line : Text) (before after : Option (List ℕ)) (did : Result (Unit {0}) SinkFault) : Type 0 where
  pub answer : Answer
  pub step : Step old line answer new
  pub put : Puts (answer_line answer) before after did

-- the lines that are ended in these first bytes of a script were answered, and the line behind them is kept
pub record Answered (first now : State) (text : Text) (kept before : List ℕ) (so_far : Option (List ℕ)) : Type 0 where
  pub keeps : kept ≡ kept_of (open_line_of text)
  pub answers : List Answer
  pub run : Run first (ended_lines_of text) answers now
  pub put : so_far ≡ Some (before ++ answers_text answers)

-- a line was answered, and led to a state in which the session is, over these files
pub record LineAnswered (session : SessionView) (files : Files) (s : State) (line : Text) (before after : Option (List ℕ)) (did : Result (Unit {0}) SinkFault) : Type 0 where
  pub now : State
  pub at : IsAt session files now
  pub answers : AnswersLine s now line before after did

-- what was answered of a script so far has led to a state in which the session is, over these files
pub record AnsweredBy (session : SessionView) (files : Files) (first : State) (text : Text) (kept before : List ℕ) (so_far : Option (List ℕ)) : Type 0 where
  pub now : State
  pub at : IsAt session files now
  pub answered : Answered first now text kept before so_far

-- some first lines were answered, which led to a state in which the session is, and the texts of their answers were put, but for an end of the last one's
pub record AnsweredPart (first : State) (session : SessionView) (files : Files) (lines : List Text) (before : List ℕ) (after : Option (List ℕ)) : Type 0 where
  pub done : List Text
  pub others : List Text
  pub first_lines : done ++ others ≡ lines
  pub answers : List Answer
  pub last : State
  pub run : Run first done answers last
  pub at : IsAt session files last
  pub put : PutsFront answers before after

-- these lines were answered, which led to a state in which the session is, and the texts of their answers were put
pub record AnsweredAll (first : State) (session : SessionView) (files : Files) (lines : List Text) (before : List ℕ) (after : Option (List ℕ)) : Type 0 where
  pub answers : List Answer
  pub last : State
  pub run : Run first lines answers last
  pub at : IsAt session files last
  pub put : after ≡ Some (before ++ answers_text answers)

-- from each state in which the session is over the first of these files, any line that the bytes stand for is answered
abbrev pub AnswersBytes : SessionView → Files → SessionView → Files → List ℕ → Option (List ℕ) → Option (List ℕ) → Result (Unit {0}) SinkFault → Type 0
AnswersBytes old files new files_now bytes before after did = (s : State) (line : Text) → IsAt old files s → StandsFor bytes line → LineAnswered new files_now s line before after did

-- the same for any line of which these bytes are kept, with further bytes behind it
abbrev pub AnswersBehind : SessionView → Files → SessionView → Files → List ℕ → List ℕ → Option (List ℕ) → Option (List ℕ) → Result (Unit {0}) SinkFault → Type 0
AnswersBehind old files new files_now kept line before after did = (s : State) (text : Text) → IsAt old files s → kept ≡ kept_of text → LineAnswered new files_now s (text ++ line) before after did

-- whatever was answered of a script so far, it goes on over a piece behind that
abbrev pub AnswersPiece : SessionView → Files → SessionView → Files → List ℕ → List ℕ → List ℕ → Option (List ℕ) → Option (List ℕ) → Type 0
AnswersPiece old files new files_now kept kept_now piece so_far after = (first : State) (text : Text) (before : List ℕ) → AnsweredBy old files first text kept before so_far → AnsweredBy new files_now first (text ++ piece) kept_now before after

-- the same where a put was refused
abbrev pub CutsPiece : SessionView → Files → SessionView → Files → List ℕ → List ℕ → Option (List ℕ) → Option (List ℕ) → Type 0
CutsPiece old files new files_now kept piece so_far after = (first : State) (text : Text) (before : List ℕ) → AnsweredBy old files first text kept before so_far → AnsweredPart first new files_now (ended_lines_of (text ++ piece)) before after

-- whatever was answered of a script so far, it is all of the script
abbrev pub AnswersEnd : SessionView → Files → SessionView → Files → List ℕ → Option (List ℕ) → Option (List ℕ) → Type 0
AnswersEnd old files new files_now kept so_far after = (first : State) (text : Text) (before : List ℕ) → AnsweredBy old files first text kept before so_far → AnsweredAll first new files_now (lines_of text) before after

-- the same where a put was refused
abbrev pub CutsEnd : SessionView → Files → SessionView → Files → List ℕ → Option (List ℕ) → Option (List ℕ) → Type 0
CutsEnd old files new files_now kept so_far after = (first : State) (text : Text) (before : List ℕ) → AnsweredBy old files first text kept before so_far → AnsweredPart first new files_now (lines_of text) before after

-- some first lines were answered and the texts of their answers were put, and the next line is a save that met a fault. The session is in the state before
-- that line, and the files are as it left them
pub record AnsweredToSave (first : State) (session : SessionView) (files : Files) (lines : List Text) (before : List ℕ) (after : Option (List ℕ)) : Type 0 where
  pub done : List Text
  pub line : Text
  pub others : List Text
  pub first_lines : done ++ line ∷ others ≡ lines
  pub answers : List Answer
  pub last : State
  pub run : Run first done answers last
  pub is : IsStateOf session last
  pub stops : StopsAtSave last line files
  pub put : after ≡ Some (before ++ answers_text answers)

-- what was answered of a script, the session that it led to and the files then, by what stopped it
abbrev pub ScriptRun : State → SessionView → Files → Text → List ℕ → Option (List ℕ) → Result (Unit {0}) Stop → Type 0
ScriptRun first session files text before after (Ok x) = (length text ≤ most_script_bytes) × AnsweredAll first session files (lines_of text) before after
ScriptRun first session files text before after (Err (stop.Script file.Failed)) = (size : ℕ) × AnsweredAll first session files (ended_lines_of (take size text)) before after
ScriptRun first session files text before after (Err (stop.Script file.Memory)) = AnsweredPart first session files (lines_of text) before after
ScriptRun first session files text before after (Err (stop.Line f)) = AnsweredToSave first session files (lines_of text) before after
ScriptRun first session files text before after (Err (stop.Put f)) = AnsweredPart first session files (lines_of text) before after
ScriptRun first session files text before after (Err stop.TooLong) = (most_script_bytes < length text) × AnsweredAll first session files (ended_lines_of (take most_script_bytes text)) before after
