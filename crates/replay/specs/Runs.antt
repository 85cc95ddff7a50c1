-- What a run of the program puts, by its status.
use Rattle.std.specs.Prelude.{◌≡◌, ◌≤◌, ◌<◌, ◌⊎◌, ℕ, ◌^◌, List, [], ◌∷◌, ◌++◌, take, length, slice_index, codes, Bool, true, false, Option, Some, None}
use Rattle.std.specs.List.{flat_map}
use Rattle.spur_io.specs.Causes.{Rose}
use Rattle.spur_graph.specs.declared.answer.Answer.{Answer}
use Rattle.spur_graph.specs.Bytes.{Text}
use Rattle.spur_graph.specs.declared.limits.Limits.{Limits}
use Rattle.spur_graph.specs.State.{State, Files}
use Rattle.spur_graph.specs.Step.{Renamed, Run}
use Rattle.spur_graph.specs.Lines.{lines_of, ended_lines_of}
use Rattle.spur_graph.specs.Text.{answer_line}
use Rattle.spur_graph.specs.Heaps.{Whole}
use Rattle.spur_graph.specs.ImageFile.{header_bytes}
use Rattle.spur_graph.specs.LoadedGraph.{loaded_graph, loaded_room}
use Rattle.spur_graph.specs.ImageCauses.{Cause, FirstCause, IsAccepted, cause_line}
use Rattle.replay.specs.Sessions.{SessionView, IsStateOf, StopsAtSave}
use Rattle.replay.specs.Options.{AskFor}
use Rattle.replay.specs.declared.runs.Status.{Status}
use Rattle.replay.specs.declared.runs.Status.TheVariants as status

-- the most bytes that a script may have
abbrev pub most_script_bytes : ℕ
most_script_bytes = 2 ^ 32

-- a text that names a file on a command line: it is not empty, and does not begin with `-`
pub record IsPath (name : Text) : Type 0 where
  pub some : 0 < length name
  pub no_option : slice_index name 0 ≡ 45 → ⊥

-- the words `replay IMAGE SCRIPT`
pub record IsCall (words : List Text) (image script : Text) : Type 0 where
  pub are : words ≡ codes "replay" ∷ image ∷ script ∷ []
  pub image_path : IsPath image
  pub script_path : IsPath script

-- the words `replay IMAGE SCRIPT` and options behind them, which ask for these limits
pub record IsReplay (words : List Text) (image script : Text) (limits : Limits) : Type 0 where
  pub front : List Text
  pub options : List Text
  pub are : words ≡ front ++ options
  pub call : IsCall front image script
  pub asks : AskFor options limits

-- the words are in no form that the program knows
abbrev pub IsMisused : List Text → Type 0
IsMisused words = (image script : Text) (limits : Limits) → IsReplay words image script limits → ⊥

abbrev pub usage_line : Text
usage_line = codes "usage: spur replay IMAGE SCRIPT [--eden W] [--survivor W] [--room W] [--saved W] | spur drill START LINES\n"

-- the state in which an image begins
abbrev pub first_state : Files → Text → Text → Limits → State
first_state files image script limits = record { graph = loaded_graph (files image); room = loaded_room (files image) limits; files = files; script = script }

abbrev pub answers_text : List Answer → Text
answers_text answers = flat_map answer_line answers

-- the answers to some lines from a state that differs from the image's in names alone
pub record Answering (files : Files) (image script : Text) (limits : Limits) (lines : List Text) : Type 0 where
  pub answers : List Answer
  pub start : State
  pub named : Renamed (first_state files image script limits) start
  pub last : State
  pub run : Run start lines answers last

-- these lines were answered, which led to these files, and the texts of their answers were put
pub record PutsAll (files files_now : Files) (image script : Text) (limits : Limits) (lines : List Text) (before : List ℕ) (after : Option (List ℕ)) : Type 0 where
  pub accepted : IsAccepted (files image) limits
  pub answering : Answering files image script limits lines
  pub same_files : answering.last.files ≡ files_now
  pub put : after ≡ Some (before ++ answers_text answering.answers)

-- the texts of these answers were put, but for an end of the last one's
pub record PutsFront (answers : List Answer) (before : List ℕ) (after : Option (List ℕ)) : Type 0 where
  pub whole : List Answer
  pub last : List Answer
  pub are : answers ≡ whole ++ last
  pub one : length last ≤ 1
  pub size : ℕ
  pub put : after ≡ Some (before ++ (answers_text whole ++ take size (answers_text last)))

-- the first lines of the script were answered, which led to these files, and the texts of their answers were put, but for an end of the last one's
pub record PutsPart (files files_now : Files) (image script : Text) (limits : Limits) (before : List ℕ) (after : Option (List ℕ)) : Type 0 where
  pub accepted : IsAccepted (files image) limits
  pub lines : List Text
  pub others : List Text
  pub first : lines ++ others ≡ lines_of (files script)
  pub answering : Answering files image script limits lines
  pub same_files : answering.last.files ≡ files_now
  pub put : PutsFront answering.answers before after

-- all lines that are ended in the first bytes of the script were answered, which led to these files, and the texts of their answers were put
pub record PutsEnded (files files_now : Files) (image script : Text) (limits : Limits) (before : List ℕ) (after : Option (List ℕ)) : Type 0 where
  pub size : ℕ
  pub whole : PutsAll files files_now image script limits (ended_lines_of (take size (files script))) before after

-- the first lines of the script were answered and the texts of their answers were put, and the next line is a save that met a fault, which left these files
pub record PutsToSave (files files_now : Files) (image script : Text) (limits : Limits) (before : List ℕ) (after : Option (List ℕ)) : Type 0 where
  pub accepted : IsAccepted (files image) limits
  pub lines : List Text
  pub line : Text
  pub others : List Text
  pub first : lines ++ line ∷ others ≡ lines_of (files script)
  pub answering : Answering files image script limits lines
  pub stops : StopsAtSave answering.last line files_now
  pub put : after ≡ Some (before ++ answers_text answering.answers)

-- a session is kept that has ended or not, is in this state, and has the limits and the header bytes with which its image was loaded and nothing marked
pub record IsKept (kept : Option SessionView) (image : List ℕ) (limits : Limits) (ended : Bool) (last : State) : Type 0 where
  pub session : SessionView
  pub is : kept ≡ Some session
  pub ends : session.ended ≡ ended
  pub state : IsStateOf session last
  pub carried : session.heap.carried ≡ take header_bytes image
  pub same_limits : session.heap.limits ≡ limits
  pub unmarked : session.heap.phase ≡ Whole

-- a part of a line was put
abbrev pub PutsPartOf : Text → List ℕ → Option (List ℕ) → Type 0
PutsPartOf line before after = (size : ℕ) × (after ≡ Some (before ++ take size line))

-- what a run finds and what it leaves: the files, what was put, and how many writes to files and how many puts have failed
pub record Around : Type 0 where
  pub files : Files
  pub files_now : Files
  pub before : List ℕ
  pub after : Option (List ℕ)
  pub writes : ℕ
  pub writes_now : ℕ
  pub puts : ℕ
  pub puts_now : ℕ

-- a put failed or found no memory: in the usage line, in the line of a refused image, or in the answers. The files are those of the state behind the last line
-- that was answered
pub data IsCutShort (words : List Text) (r : Around) (kept : Option SessionView) : Type 0 where
  in_usage : IsMisused words → PutsPartOf usage_line r.before r.after → r.files_now ≡ r.files → kept ≡ None → IsCutShort words r kept
  in_refusal : {image script : Text} {limits : Limits} (cause : Cause) → IsReplay words image script limits → FirstCause (r.files image) limits cause → PutsPartOf (cause_line cause) r.before r.after → r.files_now ≡ r.files → kept ≡ None
      → IsCutShort words r kept
  in_answers : {image script : Text} {limits : Limits} → IsReplay words image script limits → (part : PutsPart r.files r.files_now image script limits r.before r.after)
      → IsKept kept (r.files image) limits false part.answering.last → IsCutShort words r kept

-- a save met a fault: the answers of all lines before it were put, and a session is kept that has ended, in the state before it
pub data IsUnsaved (words : List Text) (r : Around) (kept : Option SessionView) : Type 0 where
  at_save : {image script : Text} {limits : Limits} → IsReplay words image script limits → (part : PutsToSave r.files r.files_now image script limits r.before r.after)
      → IsKept kept (r.files image) limits true part.answering.last → IsUnsaved words r kept

-- what was put, which files there are and which session is kept at each status, where the files and the sink tell their bytes: where lines were answered one in
-- the state behind these, and none where the words are misused or the image is refused; where nothing was put and a read failed or memory was lacking, either
pub data Outcome (words : List Text) (r : Around) (kept : Option SessionView) : Status → Type 0 where
  done : {image script : Text} {limits : Limits} → IsReplay words image script limits → length (r.files script) ≤ most_script_bytes → (all : PutsAll r.files r.files_now image script limits (lines_of (r.files script)) r.before r.after)
      → IsKept kept (r.files image) limits false all.answering.last → Outcome words r kept status.Done
  usage : IsMisused words → r.after ≡ Some (r.before ++ usage_line) → r.files_now ≡ r.files → kept ≡ None → Outcome words r kept status.Usage
  refused : {image script : Text} {limits : Limits} (cause : Cause) → IsReplay words image script limits → FirstCause (r.files image) limits cause → r.after ≡ Some (r.before ++ cause_line cause) → r.files_now ≡ r.files → kept ≡ None
      → Outcome words r kept status.Refused
  unread_image : {image script : Text} {limits : Limits} → IsReplay words image script limits → r.after ≡ Some r.before → r.files_now ≡ r.files → kept ≡ None → Outcome words r kept status.ReadFault
  unread_script : {image script : Text} {limits : Limits} → IsReplay words image script limits → (ended : PutsEnded r.files r.files_now image script limits r.before r.after)
      → IsKept kept (r.files image) limits false ended.whole.answering.last → Outcome words r kept status.ReadFault
  too_long : {image script : Text} {limits : Limits} → IsReplay words image script limits → most_script_bytes < length (r.files script)
      → (all : PutsAll r.files r.files_now image script limits (ended_lines_of (take most_script_bytes (r.files script))) r.before r.after)
      → IsKept kept (r.files image) limits false all.answering.last → Outcome words r kept status.TooLong
  cut_short : Rose r.puts r.puts_now → IsCutShort words r kept → Outcome words r kept status.WriteFault
  unsaved : Rose r.writes r.writes_now → IsUnsaved words r kept → Outcome words r kept status.WriteFault
  no_memory : IsCutShort words r kept → Outcome words r kept status.Memory
  no_memory_to_save : IsUnsaved words r kept → Outcome words r kept status.Memory
  no_memory_for_image : {image script : Text} {limits : Limits} → IsReplay words image script limits → r.after ≡ Some r.before → r.files_now ≡ r.files → kept ≡ None → Outcome words r kept status.Memory

-- a session that has not ended is kept
abbrev pub IsOpen : Option SessionView → Type 0
IsOpen kept = (session : SessionView) × (kept ≡ Some session) × (session.ended ≡ false)

-- what is kept by the status, whatever files and sink tell: a session that has not ended at 0 and 7, and none where the words are misused or the image is
-- refused
abbrev pub IsLeft : List Text → Status → Option SessionView → Type 0
IsLeft words status.Usage kept = kept ≡ None
IsLeft words status.Refused kept = kept ≡ None
IsLeft words status.Done kept = IsOpen kept
IsLeft words status.TooLong kept = IsOpen kept
IsLeft words other kept = IsMisused words → kept ≡ None

-- status 2 comes only where the words are in no known form, and every other but 5 and 6 only where they are in one, whatever files and sink tell
abbrev pub Judges : List Text → Status → Type 0
Judges words status.Usage = IsMisused words
Judges words status.WriteFault = Unit {0}
Judges words status.Memory = Unit {0}
Judges words status.Done = IsMisused words → ⊥
Judges words status.Refused = IsMisused words → ⊥
Judges words status.ReadFault = IsMisused words → ⊥
Judges words status.TooLong = IsMisused words → ⊥

-- a fault comes only where its count rose, and at most one count differs
abbrev pub Counts : ℕ → ℕ → ℕ → ℕ → ℕ → ℕ → Status → Type 0
Counts reads reads_now writes writes_now puts puts_now status.ReadFault = (reads ≤ reads_now) × Rose reads reads_now × ((writes_now ≡ writes) × (puts_now ≡ puts))
Counts reads reads_now writes writes_now puts puts_now status.WriteFault =
    (reads_now ≡ reads) × (((puts_now ≡ puts) × ((writes ≤ writes_now) × Rose writes writes_now)) ⊎ ((writes_now ≡ writes) × ((puts ≤ puts_now) × Rose puts puts_now)))
Counts reads reads_now writes writes_now puts puts_now other = (reads_now ≡ reads) × ((writes_now ≡ writes) × (puts_now ≡ puts))

-- no file is changed where the words are misused or the image is refused, whatever the sink tells
abbrev pub KeepsFiles : Option Files → Option Files → Status → Type 0
KeepsFiles old now status.Usage = now ≡ old
KeepsFiles old now status.Refused = now ≡ old
KeepsFiles old now other = Unit {0}
