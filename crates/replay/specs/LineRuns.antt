-- What came of some lines of a script, by what stopped them.
use Rattle.std.specs.Prelude.{◌≡◌, ℕ, ◌≤◌, List, ◌++◌, Bool, true, Option, Result, Ok, Err}
use Rattle.spur_io.specs.declared.files.FileFault.TheVariants as file
use Rattle.spur_io.specs.declared.sink.SinkFault.TheVariants as sink
use Rattle.spur_io.specs.Causes.{Rose}
use Rattle.spur_graph.specs.Bytes.{Text}
use Rattle.spur_graph.specs.State.{State, Files}
use Rattle.spur_graph.specs.Lines.{lines_of, ended_lines_of}
use Rattle.replay.specs.declared.session.Fault.TheVariants as fault
use Rattle.replay.specs.declared.runs.Stop.{Stop}
use Rattle.replay.specs.declared.runs.Stop.TheVariants as stop
use Rattle.replay.specs.Sessions.{SessionView, IsStateOf, IsAt, StandsFor, StopsAtSave}
use Rattle.replay.specs.Answered.{kept_of, AnsweredBy, AnsweredToSave, AnswersBytes, AnswersBehind, AnswersPiece, CutsPiece, AnswersEnd, CutsEnd}

-- a line is a save that met a fault, which left these files: the session is in the state before it, and nothing was put
pub record LineStopped (session : SessionView) (files : Files) (s : State) (line : Text) (before after : Option (List ℕ)) : Type 0 where
  pub is : IsStateOf session s
  pub stops : StopsAtSave s line files
  pub put : after ≡ before

-- of any line that the bytes stand for
abbrev pub LineRun : SessionView → Files → SessionView → Files → List ℕ → Option (List ℕ) → Option (List ℕ) → Result (Unit {0}) Stop → Type 0
LineRun old files new files_now bytes before after (Ok x) = AnswersBytes old files new files_now bytes before after (Ok x)
LineRun old files new files_now bytes before after (Err (stop.Put e)) = AnswersBytes old files new files_now bytes before after (Err e)
LineRun old files new files_now bytes before after (Err (stop.Line f)) = (s : State) (line : Text) → IsAt old files s → StandsFor bytes line → LineStopped new files_now s line before after
LineRun old files new files_now bytes before after (Err (stop.Script f)) = ⊥
LineRun old files new files_now bytes before after (Err stop.TooLong) = ⊥

-- of any line of which these bytes are kept, with further bytes behind it
abbrev pub BehindRun : SessionView → Files → SessionView → Files → List ℕ → List ℕ → Option (List ℕ) → Option (List ℕ) → Result (Unit {0}) Stop → Type 0
BehindRun old files new files_now kept line before after (Ok x) = AnswersBehind old files new files_now kept line before after (Ok x)
BehindRun old files new files_now kept line before after (Err (stop.Put e)) = AnswersBehind old files new files_now kept line before after (Err e)
BehindRun old files new files_now kept line before after (Err (stop.Line f)) = (s : State) (text : Text) → IsAt old files s → kept ≡ kept_of text → LineStopped new files_now s (text ++ line) before after
BehindRun old files new files_now kept line before after (Err (stop.Script f)) = ⊥
BehindRun old files new files_now kept line before after (Err stop.TooLong) = ⊥

-- of the lines that are ended in a piece of the script
abbrev pub PieceRun : SessionView → Files → SessionView → Files → List ℕ → List ℕ → List ℕ → Option (List ℕ) → Option (List ℕ) → Result (Unit {0}) Stop → Type 0
PieceRun old files new files_now kept kept_now piece so_far after (Ok x) = AnswersPiece old files new files_now kept kept_now piece so_far after
PieceRun old files new files_now kept kept_now piece so_far after (Err (stop.Put e)) = CutsPiece old files new files_now kept piece so_far after
PieceRun old files new files_now kept kept_now piece so_far after (Err (stop.Line f)) =
    (first : State) (text : Text) (before : List ℕ) → AnsweredBy old files first text kept before so_far → AnsweredToSave first new files_now (ended_lines_of (text ++ piece)) before after
PieceRun old files new files_now kept kept_now piece so_far after (Err (stop.Script f)) = ⊥
PieceRun old files new files_now kept kept_now piece so_far after (Err stop.TooLong) = ⊥

-- of the line at the script's end
abbrev pub EndRun : SessionView → Files → SessionView → Files → List ℕ → Option (List ℕ) → Option (List ℕ) → Result (Unit {0}) Stop → Type 0
EndRun old files new files_now kept so_far after (Ok x) = AnswersEnd old files new files_now kept so_far after
EndRun old files new files_now kept so_far after (Err (stop.Put e)) = CutsEnd old files new files_now kept so_far after
EndRun old files new files_now kept so_far after (Err (stop.Line f)) =
    (first : State) (text : Text) (before : List ℕ) → AnsweredBy old files first text kept before so_far → AnsweredToSave first new files_now (lines_of text) before after
EndRun old files new files_now kept so_far after (Err (stop.Script f)) = ⊥
EndRun old files new files_now kept so_far after (Err stop.TooLong) = ⊥

-- a session ends at a line that met a fault, and at nothing else
abbrev pub EndsBy : Bool → Bool → Result (Unit {0}) Stop → Type 0
EndsBy ended ended_now (Err (stop.Line f)) = ended_now ≡ true
EndsBy ended ended_now other = ended_now ≡ ended

-- which count rose, by what stopped the lines; no other differs
abbrev pub StopCause : ℕ → ℕ → ℕ → ℕ → ℕ → ℕ → Result (Unit {0}) Stop → Type 0
StopCause reads reads_now writes writes_now puts puts_now (Err (stop.Script file.Failed)) = ((reads ≤ reads_now) × Rose reads reads_now) × ((writes_now ≡ writes) × (puts_now ≡ puts))
StopCause reads reads_now writes writes_now puts puts_now (Err (stop.Line fault.Read)) = ⊥
StopCause reads reads_now writes writes_now puts puts_now (Err (stop.Line fault.Write)) = (reads_now ≡ reads) × (((writes ≤ writes_now) × Rose writes writes_now) × (puts_now ≡ puts))
StopCause reads reads_now writes writes_now puts puts_now (Err (stop.Put sink.Failed)) = (reads_now ≡ reads) × ((writes_now ≡ writes) × ((puts ≤ puts_now) × Rose puts puts_now))
StopCause reads reads_now writes writes_now puts puts_now other = (reads_now ≡ reads) × ((writes_now ≡ writes) × (puts_now ≡ puts))
