-- What contracts see of a session, and the state of the machine in which it is.
use Rattle.std.specs.Prelude.{◌≡◌, ◌⊎◌, ◌<◌, ◌≤◌, ℕ, List, length, Bool, true, false, Option, Some, None, IfSome, Result, Ok, Err, refl}
use Rattle.std.specs.Coded.{Coded, code_by, coded×, coded_ℕ, coded_list, coded_bool}
use Rattle.spur_graph.specs.declared.answer.Value.{Value}
use Rattle.spur_graph.specs.declared.answer.Answer.{Answer}
use Rattle.spur_graph.specs.Bytes.{Text}
use Rattle.spur_graph.specs.Graph.{Graph}
use Rattle.spur_graph.specs.Room.{Room}
use Rattle.spur_graph.specs.State.{State, Files}
use Rattle.spur_graph.specs.Form.{Form, SegLoad, Save}
use Rattle.spur_graph.specs.Saves.{CutsSave}
use Rattle.spur_graph.specs.Step.{Reads, Step, Passes, longest_line}
use Rattle.spur_graph.specs.Heaps.{View, heap_graph, heap_room, heap_value}
use Rattle.spur_heap.specs.Parts.{view_code}
use Rattle.spur_io.specs.Causes.{Rose}
use Rattle.replay.specs.declared.session.Fault.{Fault}
use Rattle.replay.specs.declared.session.Fault.TheVariants as fault
use Rattle.replay.specs.declared.session.LineFault.{LineFault}
use Rattle.replay.specs.declared.session.LineFault.TheVariants as line

-- a heap, the name of the script that is run, and whether the session has ended
pub record SessionView : Type 0 where
  pub heap : View
  pub script : Text
  pub ended : Bool

-- a session is stored as the tuple of its parts
abbrev pub session_code : Coded SessionView
session_code =
    code_by (View × (List ℕ × Bool)) (coded× view_code (coded× (coded_list coded_ℕ) coded_bool)) (λ s. (s.heap, (s.script, s.ended)))
    (λ t. record { heap = t.0; script = t.1.0; ended = t.1.1 }) (λ _. refl)

-- the graph and the room that a heap stands for
unfoldable pub graph_of : View → Graph
graph_of v = heap_graph v

unfoldable pub room_of : View → Room
room_of v = heap_room v

-- the value of a word in a heap
abbrev pub value_in : View → ℕ → Value
value_in v word = heap_value v word

-- the state with the graph and the room of a heap in place of its own
abbrev pub over : View → State → State
over v s = record s { graph = graph_of v; room = room_of v }

-- a session is in this state: graph and room are those of its heap, and it runs this script. The files are no part of a session
pub record IsStateOf (session : SessionView) (s : State) : Type 0 where
  pub heap : s ≡ over session.heap s
  pub script : s.script ≡ session.script

-- the same over these files
pub record IsAt (session : SessionView) (files : Files) (s : State) : Type 0 where
  pub state : IsStateOf session s
  pub same_files : s.files ≡ files

-- the bytes of a line, of one that is too long only a front that is too long too
abbrev pub StandsFor : List ℕ → Text → Type 0
StandsFor bytes line = (bytes ≡ line) ⊎ ((longest_line < length bytes) × (longest_line < length line))

-- the command reads a file
abbrev pub reads_file : Form → Bool
reads_file (SegLoad h o name) = true
reads_file form = false

-- the line is no command that reads a file
abbrev pub ReadsNone : Text → Type 0
ReadsNone line = (k : ℕ) (form : Form) → Reads line k form → reads_file form ≡ false

-- where a store tells its bytes the files are these; where it tells none they are any, and then no file is read
abbrev pub AreSeen : Option Files → Text → Files → Type 0
AreSeen (Some store) line files = files ≡ store
AreSeen None line files = ReadsNone line

-- where a store tells its bytes the files are these
abbrev pub AreTold : Option Files → Files → Type 0
AreTold told files = IfSome told (λ store. files ≡ store)

-- a step with this answer leads to a state in which the session is, over what the store tells
pub record Advance (session : SessionView) (told : Option Files) (s : State) (line : Text) (answer : Answer) : Type 0 where
  pub now : State
  pub is : IsStateOf session now
  pub files : AreTold told now.files
  pub step : Step s line answer now

-- from each state in which a session is, over what the store tells, each line that the bytes stand for has this answer, and leads to a state in which the
-- session then is, over what the store then tells
abbrev pub Advances : SessionView → Option Files → List ℕ → Answer → SessionView → Option Files → Type 0
Advances old told bytes answer new told_now = (s : State) (line : Text) → IsStateOf old s → AreSeen told line s.files → StandsFor bytes line → Advance new told_now s line answer

-- both are sessions of one script on one image
pub record SameRun (old new : SessionView) : Type 0 where
  pub script : new.script ≡ old.script
  pub carried : new.heap.carried ≡ old.heap.carried
  pub limits : new.heap.limits ≡ old.heap.limits
  pub phase : new.heap.phase ≡ old.heap.phase

-- a relation of what a store tells before and after; where it tells nothing before, it tells nothing afterwards
abbrev pub WhereTold : Option Files → Option Files → (Files → Files → Type 0) → Type 0
WhereTold None None P = Unit {0}
WhereTold None (Some now) P = ⊥
WhereTold (Some old) None P = ⊥
WhereTold (Some old) (Some now) P = P old now

-- ---- lines that meet a fault

-- the line was a save that nothing refuses, and it met a fault, which left these files
pub record StopsAtSave (s : State) (line : Text) (files : Files) : Type 0 where
  pub k : ℕ
  pub name : Text
  pub short : length line ≤ longest_line
  pub reads : Reads line k (Save name)
  pub passes : Passes s k (Save name)
  pub cut : CutsSave s name files

-- from each state in which the session is over the first of these files, any line that the bytes stand for is a save that met a fault
abbrev pub Stops : SessionView → List ℕ → Files → Files → Type 0
Stops session bytes files files_now = (s : State) (line : Text) → IsAt session files s → StandsFor bytes line → StopsAtSave s line files_now

-- a fault of a write comes only where its count rose, and no other count differs; no line is served that reads a file
abbrev pub FaultCause : {T : Type 0} → ℕ → ℕ → ℕ → ℕ → Result T Fault → Type 0
FaultCause reads reads_now writes writes_now (Ok x) = (reads_now ≡ reads) × (writes_now ≡ writes)
FaultCause reads reads_now writes writes_now (Err fault.Read) = ⊥
FaultCause reads reads_now writes writes_now (Err fault.Write) = (reads_now ≡ reads) × ((writes ≤ writes_now) × Rose writes writes_now)
FaultCause reads reads_now writes writes_now (Err fault.Memory) = (reads_now ≡ reads) × (writes_now ≡ writes)

-- the same of a line of any session; one that has ended calls no store
abbrev pub LineCause : {T : Type 0} → ℕ → ℕ → ℕ → ℕ → Result T LineFault → Type 0
LineCause reads reads_now writes writes_now (Ok x) = (reads_now ≡ reads) × (writes_now ≡ writes)
LineCause reads reads_now writes writes_now (Err line.Read) = ⊥
LineCause reads reads_now writes writes_now (Err line.Write) = (reads_now ≡ reads) × ((writes ≤ writes_now) × Rose writes writes_now)
LineCause reads reads_now writes writes_now (Err line.Memory) = (reads_now ≡ reads) × (writes_now ≡ writes)
LineCause reads reads_now writes writes_now (Err line.Ended) = (reads_now ≡ reads) × (writes_now ≡ writes)

-- the fault of a line of a session that has not ended
abbrev pub line_fault : Fault → LineFault
line_fault fault.Read = line.Read
line_fault fault.Write = line.Write
line_fault fault.Memory = line.Memory
